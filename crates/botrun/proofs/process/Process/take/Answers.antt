use Rattle.std.proofs.Common.{◌∙◌, not, false, refl, sym}
use Rattle.watching.proofs.FollowingLemmas.{at_watched}
use Rattle.watching.proofs.SendingLemmas.{lets_all, up_sent}
use Rattle.botrun.proofs.TakingLemmas.{takes_changes}
use Rattle.botrun.proofs.process.Process.take.Goals as goal

pub take_turn-told-requires-clause-watched : goal.take_turn-told-requires-clause-watched
take_turn-told-requires-clause-watched g c = at_watched _ _ _ _ _ _ c.requires.up.even.at

pub pass-requires-clause-lets : goal.pass-requires-clause-lets
pass-requires-clause-lets g c =
    let turn = c.take_turn-told.ensures in
    lets_all _ _ _ _ _ _ _ _ _ _ _ c.requires.up.even turn.watched turn.queues.unsent_is

pub pass-requires-clause-told : goal.pass-requires-clause-told
pass-requires-clause-told g c = c.requires.up.even.settled.told_is ∙ sym c.take_turn-told.ensures.queues.sent_is

pub returns : goal.returns
returns g c =
    let turn = c.take_turn-told.ensures in
    let passed = c.in_ok-pass.ensures in
    record {
      turn = takes_changes _ _ _ _ _ _ _ _ _ _ _
          (record {
            connected = false;
            bytes = c.new-bytes.result;
            packets = c.new-packets.result;
            changes = c.args.changes;
            now = c.args.now;
            pump = not c.args.compacts;
            compact = c.args.compacts;
          })
          c.take_turn-told.result c.take_turn-told.new.bot c.take_turn-told.new.lines
          turn.turn refl refl
          (refl, c.new-bytes.ensures.items, c.new-packets.ensures.items) refl refl refl
          (cc) passed.server;
      up = up_sent _ _ _ _ _ _ _ _ _ _ _ _ _ _ c.requires.up.even turn.follows turn.watched turn.queues.unsent_is
          (turn.queues.none passed.done) (turn.queues.ticked passed.done) passed.past refl passed.told;
    }
