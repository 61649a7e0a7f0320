use Rattle.floods.proofs.LineLemmas.{without_limits_all_pass}
use Rattle.floods.proofs.laws.without_limits.Goals as goal

pub returns : goal.returns
returns c = λ trusted now sieve bytes none short. without_limits_all_pass trusted now sieve bytes none short
