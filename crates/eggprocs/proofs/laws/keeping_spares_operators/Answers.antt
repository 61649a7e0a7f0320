use Rattle.eggprocs.proofs.KeepingLemmas.{protectops-only, bitch-only, guard-only, enforcebans-only}
use Rattle.eggprocs.proofs.laws.keeping_spares_operators.Goals as goal

pub returns : goal.returns
returns c = record { protectops = protectops-only; bitch = bitch-only; guard = guard-only; enforcebans = enforcebans-only }
