use Rattle.watching.proofs.SendingLemmas.{quietly_stays}
use Rattle.botrun.proofs.QuietLemmas.{binds_quietly}
use Rattle.botrun.proofs.starting.bind_one.Goals as goal

pub returns : goal.returns
returns g c =
    let step = c.watched_step-report in
    binds_quietly _ _ _ _ _ _ _ _ step.result tt step.ensures.takes step.ensures.past step.ensures.follows step.ensures.watched

pub returns-in-Err : goal.returns-in-Err
returns-in-Err g c = quietly_stays _ _ _ _ _ c.requires.watched
