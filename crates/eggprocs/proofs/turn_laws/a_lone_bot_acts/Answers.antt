use Rattle.eggprocs.proofs.RankLemmas.{lone-first, unknown-first}
use Rattle.eggprocs.proofs.turn_laws.a_lone_bot_acts.Goals as goal

pub returns : goal.returns
returns c = record { lone = lone-first; unknown = unknown-first }
