use Rattle.std.proofs.Common.{sym}
use Rattle.flagexpr.proofs.Sets.{is_within-bit_and}
use Rattle.flagexpr.proofs.flags.Flags.is_within.Goals as goal

pub returns : goal.returns
returns c = rw (← c.self.view_is, ← c.other.view_is) (sym (is_within-bit_and _ _ c.self.invariant))
