use Rattle.std.proofs.Common.{arith}
use Rattle.flagexpr.proofs.Sets.{same_from_letters}
use Rattle.flagexpr.proofs.flags.Flags.bits.Goals as goal

pub returns-clause-same : goal.returns-clause-same
returns-clause-same c = λ other small same. same_from_letters _ other (omega (arith, c.self.invariant, c.self.view_is)) small same
