use Rattle.registration.proofs.LineLemmas.{are_short}
use Rattle.registration.proofs.registration.Registration.apply.Goals as goal

pub returns-in-None-clause-short : goal.returns-in-None-clause-short
returns-in-None-clause-short c = are_short c.in_ok-lines.lines _ _ _ _ c.in_ok-lines.ensures.lines
