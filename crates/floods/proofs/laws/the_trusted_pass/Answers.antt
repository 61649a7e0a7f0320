use Rattle.floods.proofs.LineLemmas.{trusted_begins_none, trusted_passes}
use Rattle.floods.proofs.laws.the_trusted_pass.Goals as goal

pub returns-clause-passes : goal.returns-clause-passes
returns-clause-passes c = λ trusted now watch line trust. trusted_passes trusted now watch line trust

pub returns-clause-begins_none : goal.returns-clause-begins_none
returns-clause-begins_none c = λ trusted now watch line trust. trusted_begins_none trusted now watch line trust
