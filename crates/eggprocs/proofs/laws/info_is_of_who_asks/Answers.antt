use Rattle.std.proofs.Common.{refl}
use Rattle.eggprocs.specs.declared.proc_name.ProcName.TheVariants as which
use Rattle.eggprocs.proofs.LawLemmas.{asks-no-change, info-own, info-unknown}
use Rattle.eggprocs.proofs.laws.info_is_of_who_asks.Goals as goal

pub returns-clause-own : goal.returns-clause-own
returns-clause-own c = λ call seen reply kept. info-own call seen reply kept

pub returns-clause-known : goal.returns-clause-known
returns-clause-known c = λ call seen none. asks-no-change which.Info call seen refl (info-unknown call seen none)
