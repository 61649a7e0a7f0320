use Rattle.watching.proofs.SendingLemmas.{quietly_stays}
use Rattle.botrun.proofs.starting.bind_keeper.Goals as goal

pub returns-in_err-asked-clause-quiet : goal.returns-in_err-asked-clause-quiet
returns-in_err-asked-clause-quiet g c = quietly_stays _ _ _ _ _ c.requires.watched
