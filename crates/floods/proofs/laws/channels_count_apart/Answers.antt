use Rattle.floods.proofs.LineLemmas.{apart}
use Rattle.floods.proofs.laws.channels_count_apart.Goals as goal

pub returns : goal.returns
returns c = λ now act counts all. apart now act counts all
