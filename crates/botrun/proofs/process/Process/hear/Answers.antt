use Rattle.std.proofs.Common.{◌∙◌, Bool, false, List, ap, refl, sym}
use Rattle.sharelink.specs.declared.answer.Outgoing.{Outgoing}
use Rattle.watching.specs.Following.{after_sends}
use Rattle.peers.specs.Tells.{granted}
use Rattle.upkeep.specs.Flooding.{begun_with, heard_lines}
use Rattle.botrun.specs.Trusting.{trusts}
use Rattle.upkeep.specs.Spaces.{admitted}
use Rattle.watching.proofs.FollowingLemmas.{at_watched}
use Rattle.watching.proofs.SendingLemmas.{even_heard, lets_all, up_sent}
use Rattle.botrun.proofs.TakingLemmas.{all_admitted, all_taken, stays}
use Rattle.botrun.proofs.process.Process.hear.Goals as goal

pub watched_packets-requires : goal.watched_packets-requires
watched_packets-requires g c =
    record { watched = at_watched _ _ _ _ _ _ c.requires.even.at; told = c.requires.even.settled.told_is }

pub take_turn-told-requires-clause-heard : goal.take_turn-told-requires-clause-heard
take_turn-told-requires-clause-heard g c =
    all_admitted _ _ _ _ c.admit-packets.ensures.packets
    (all_taken _ _ _ _ c.taken_requests-granted.ensures.packets c.in_ok-waiting.ensures.heard)

pub take_turn-told-requires-clause-watched : goal.take_turn-told-requires-clause-watched
take_turn-told-requires-clause-watched g c = c.watched_packets.ensures.watched

pub follow-requires-clause-lets : goal.follow-requires-clause-lets
follow-requires-clause-lets g c =
    let packets = c.watched_packets.ensures in
    let turn = c.take_turn-told.ensures in
    lets_all _ _ _ _ _ _ _ _ _ _ _
    (even_heard _ _ _ _ _ _ _ _ _ c.requires.even packets.follows packets.watched packets.quiet packets.told)
    turn.watched turn.queues.unsent_is

pub follow-requires-clause-told : goal.follow-requires-clause-told
follow-requires-clause-told g c =
    let packets = c.watched_packets.ensures in
    packets.told ∙ c.requires.even.settled.told_is ∙ sym packets.quiet.sent_is ∙ sym c.take_turn-told.ensures.queues.sent_is

pub follow-requires-clause-up : goal.follow-requires-clause-up
follow-requires-clause-up g c =
    let packets = c.watched_packets.ensures in
    let turn = c.take_turn-told.ensures in
    λ done.
    up_sent _ _ _ _ _ _ _ _ _ _ _ _ _ _
    (even_heard _ _ _ _ _ _ _ _ _ c.requires.even packets.follows packets.watched packets.quiet packets.told)
    turn.follows turn.watched turn.queues.unsent_is (turn.queues.none done) (turn.queues.ticked done) refl refl refl

pub returns-then-is_quiet : goal.returns-then-is_quiet
returns-then-is_quiet g c =
    let packets = c.watched_packets.ensures in
    let turn = c.take_turn-told.ensures in
    let nothing = c.is_quiet-is_quiet.ensures c.if-is_quiet.true in
    record {
      hears = record {
        heard = record {
          connected = c.args.connected;
          bytes = c.in_ok-bytes.bytes;
          packets = c.admit-packets.result;
          changes = c.new-changes.result;
          now = c.args.now;
          pump = c.is_pump_due-pumps.result;
          compact = false;
        };
        same = c.in_ok-bytes.ensures
            ∙ ap (heard_lines (trusts c.args.self.now.bot) c.args.now (begun_with c.args.settings.now.floods c.args.connected c.args.self.now.floods))
            (c.as_slice-sent.ensures.value ∙ c.take_heard-heard.ensures.all);
        left = c.watched_packets.new.mailbox.mail.links;
        waiting = c.in_ok-waiting.waiting.items;
        taken = c.in_ok-waiting.ensures.gives;
        packets = c.admit-packets.ensures.packets
            ∙ ap (admitted c.args.self.now.space.room) (c.taken_requests-granted.ensures.packets
            ∙ ap (λ (b : Bool). granted b c.in_ok-waiting.waiting.items) c.hands_over-hands_over.ensures);
        told = c.take_turn-told.result;
        mid = c.take_turn-told.new.bot;
        between = c.take_turn-told.new.lines;
        turn = turn.turn;
        rest = stays _ _ _ _;
      };
      up = up_sent _ _ _ _ _ _ _ _ _ _ _ _ _ _
          (even_heard _ _ _ _ _ _ _ _ _ c.requires.even packets.follows packets.watched packets.quiet packets.told)
          turn.follows turn.watched turn.queues.unsent_is (turn.queues.none nothing.0) (turn.queues.ticked nothing.0)
          (ap (λ (ps : List Outgoing). after_sends ps (g.W.Watcher.past c.take_turn-told.new.watcher)) (sym nothing.1)) refl
          (packets.told ∙ c.requires.even.settled.told_is ∙ sym packets.quiet.sent_is ∙ sym turn.queues.sent_is);
    }

pub returns : goal.returns
returns g c = record {
  hears = record {
    heard = record {
      connected = c.args.connected;
      bytes = c.in_ok-bytes.bytes;
      packets = c.admit-packets.result;
      changes = c.new-changes.result;
      now = c.args.now;
      pump = c.is_pump_due-pumps.result;
      compact = false;
    };
    same = c.in_ok-bytes.ensures
        ∙ ap (heard_lines (trusts c.args.self.now.bot) c.args.now (begun_with c.args.settings.now.floods c.args.connected c.args.self.now.floods))
        (c.as_slice-sent.ensures.value ∙ c.take_heard-heard.ensures.all);
    left = c.watched_packets.new.mailbox.mail.links;
    waiting = c.in_ok-waiting.waiting.items;
    taken = c.in_ok-waiting.ensures.gives;
    packets = c.admit-packets.ensures.packets
        ∙ ap (admitted c.args.self.now.space.room) (c.taken_requests-granted.ensures.packets
        ∙ ap (λ (b : Bool). granted b c.in_ok-waiting.waiting.items) c.hands_over-hands_over.ensures);
    told = c.take_turn-told.result;
    mid = c.take_turn-told.new.bot;
    between = c.take_turn-told.new.lines;
    turn = c.take_turn-told.ensures.turn;
    rest = c.in_ok-follow.ensures.goes_on;
  };
  up = c.in_ok-follow.ensures.up;
}
