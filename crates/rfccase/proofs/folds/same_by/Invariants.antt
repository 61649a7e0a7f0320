use Rattle.std.proofs.Common.{take}
use Rattle.rfccase.specs.Casemapping.{IsSameBy}
use Rattle.rfccase.proofs.folds.same_by.Given as goal

-- the texts are the same as far as they are compared
abbrev pub invariant-loop-i : goal.invariant-loop-i
invariant-loop-i l = IsSameBy l.mapping (take l.i l.a) (take l.i l.b)
