use Rattle.std.proofs.Common.{subst, List, ℕ}
use Rattle.turns.specs.Turns.{Turns}
use Rattle.watching.proofs.FollowingLemmas.{watched_begun}
use Rattle.watching.proofs.HearingLemmas.{all_heard, hears_watched}
use Rattle.live.proofs.turn.bot_turn.Goals as goal

pub take_turn-requires-clause-watched : goal.take_turn-requires-clause-watched
take_turn-requires-clause-watched g c =
    hears_watched _ _ _ _ _ (watched_begun _ _ _ _ _ _ (λ past act. tt) c.began.ensures) _ _ c.note_heard.ensures

pub take_turn-requires-clause-heard : goal.take_turn-requires-clause-heard
take_turn-requires-clause-heard g c = all_heard _ _ _ c.note_heard.ensures

-- the lines begun are as they were when the turn was heard
pub returns-clause-turn : goal.returns-clause-turn
returns-clause-turn g c = record {
  heard = c.take_heard-heard.result;
  connected = c.take_heard-heard.ensures.connected;
  came = cc (c.take_heard-heard.ensures.packets);
  asked = c.take_heard-heard.ensures.changes;
  reading = c.take_heard-heard.ensures.now;
  pumped = c.take_heard-heard.ensures.pump;
  kept = c.take_heard-heard.ensures.compact;
  turn = subst (λ (held : List ℕ). Turns g.P.Promise.promised c.args.store.now c.args.bot.now held c.take_heard-heard.result
      c.take_turn.result c.take_turn.new.bot c.take_turn.new.lines) c.take_heard-heard.ensures.lines c.take_turn.ensures.turn;
}
