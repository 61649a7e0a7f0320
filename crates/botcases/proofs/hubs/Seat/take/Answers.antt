use Rattle.watching.proofs.FollowingLemmas.{watched_begun}
use Rattle.watching.proofs.HearingLemmas.{all_heard, hears_watched}
use Rattle.botcases.proofs.hubs.Seat.take.Goals as goal

pub take_turn-told-requires-clause-watched : goal.take_turn-told-requires-clause-watched
take_turn-told-requires-clause-watched c =
    hears_watched _ _ _ _ _ (watched_begun _ _ _ _ _ _ (λ past act. tt) c.began.ensures) _ _ c.note_heard.ensures

pub take_turn-told-requires-clause-heard : goal.take_turn-told-requires-clause-heard
take_turn-told-requires-clause-heard c = all_heard _ _ _ c.note_heard.ensures
