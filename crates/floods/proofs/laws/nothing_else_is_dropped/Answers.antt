use Rattle.floods.proofs.LineLemmas.{bare_passes, uncounted_passes, unsaid_passes}
use Rattle.floods.proofs.laws.nothing_else_is_dropped.Goals as goal

pub returns-clause-unsaid : goal.returns-clause-unsaid
returns-clause-unsaid c = λ trusted now watch line unsaid. unsaid_passes trusted now watch line unsaid

pub returns-clause-uncounted : goal.returns-clause-uncounted
returns-clause-uncounted c = λ trusted now watch line none. uncounted_passes trusted now watch line none

pub returns-clause-bare : goal.returns-clause-bare
returns-clause-bare c = λ trusted now watch b bs other. bare_passes trusted now watch b bs other
