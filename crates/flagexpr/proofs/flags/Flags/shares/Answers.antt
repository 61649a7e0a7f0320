use Rattle.std.proofs.Common.{sym}
use Rattle.flagexpr.proofs.Sets.{shares-bit_and}
use Rattle.flagexpr.proofs.flags.Flags.shares.Goals as goal

pub returns : goal.returns
returns c = rw (← c.self.view_is, ← c.other.view_is) (sym (shares-bit_and _ _ c.self.invariant))
