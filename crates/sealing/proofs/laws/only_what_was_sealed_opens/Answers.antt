use Rattle.sealing.proofs.UnforgedLaws.{bodies_were_sealed, carried_was_sealed}
use Rattle.sealing.proofs.laws.only_what_was_sealed_opens.Goals as goal

pub returns-clause-bodies : goal.returns-clause-bodies
returns-clause-bodies c = bodies_were_sealed

pub returns-clause-carried : goal.returns-clause-carried
returns-clause-carried c = carried_was_sealed
