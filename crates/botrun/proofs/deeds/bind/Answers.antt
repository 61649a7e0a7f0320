use Rattle.watching.proofs.SendingLemmas.{quietly_stays}
use Rattle.botrun.proofs.deeds.bind.Goals as goal

pub returns-in_err-no_bind_answer-in-Err : goal.returns-in_err-no_bind_answer-in-Err
returns-in_err-no_bind_answer-in-Err g c = quietly_stays _ _ _ _ _ c.requires.watched

pub returns-in_ok-no_bind_answer-in-Err : goal.returns-in_ok-no_bind_answer-in-Err
returns-in_ok-no_bind_answer-in-Err g c = quietly_stays _ _ _ _ _ c.requires.watched
