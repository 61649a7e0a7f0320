use Rattle.eggprocs.proofs.LookLemmas.{one-acts}
use Rattle.eggprocs.proofs.RankLemmas.{ranks-rise, ranks-differ}
use Rattle.eggprocs.proofs.turn_laws.one_bot_acts.Goals as goal

pub returns : goal.returns
returns c = record { rise = ranks-rise; differ = ranks-differ; one = one-acts }
