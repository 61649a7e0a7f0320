use Rattle.eggprocs.proofs.RankLemmas.{strangers-none}
use Rattle.eggprocs.proofs.turn_laws.strangers_change_no_rank.Goals as goal

pub returns : goal.returns
returns c = record { strangers = strangers-none }
