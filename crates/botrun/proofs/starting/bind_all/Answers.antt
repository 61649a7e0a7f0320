use Rattle.watching.proofs.SendingLemmas.{quietly_on}
use Rattle.botrun.proofs.starting.bind_all.Goals as goal

pub bind_own-requires : goal.bind_own-requires
bind_own-requires g c = record { watched = c.bind_listed.ensures.watched }

pub returns-clause-quiet : goal.returns-clause-quiet
returns-clause-quiet g c = quietly_on _ _ _ _ _ _ _ _ c.bind_listed.ensures c.bind_own.ensures.quiet
