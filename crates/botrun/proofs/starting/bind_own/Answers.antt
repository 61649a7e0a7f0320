use Rattle.watching.proofs.SendingLemmas.{quietly_on, quietly_stays}
use Rattle.botrun.proofs.starting.bind_own.Goals as goal

pub returns-then-not-holds-clause-quiet : goal.returns-then-not-holds-clause-quiet
returns-then-not-holds-clause-quiet g c = quietly_stays _ _ _ _ _ c.requires.watched

pub returns-clause-quiet : goal.returns-clause-quiet
returns-clause-quiet g c = quietly_on _ _ _ _ _ _ _ _ c.bind_keeper.ensures.quiet c.bind_keeper-2.ensures.quiet
