use Rattle.eggprocs.proofs.RankLemmas.{someone-first}
use Rattle.eggprocs.proofs.turn_laws.one_bot_is_first.Goals as goal

pub returns : goal.returns
returns c = record { first = someone-first }
