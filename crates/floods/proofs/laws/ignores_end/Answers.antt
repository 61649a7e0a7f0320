use Rattle.floods.proofs.LineLemmas.{not_ignored}
use Rattle.floods.proofs.laws.ignores_end.Goals as goal

pub returns : goal.returns
returns c = λ now key ignores all. not_ignored now key ignores all
