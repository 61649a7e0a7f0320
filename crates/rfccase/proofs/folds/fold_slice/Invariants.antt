use Rattle.std.proofs.Common.{◌≡◌, ◌++◌, take, drop}
use Rattle.rfccase.specs.Casemapping.{folded}
use Rattle.rfccase.proofs.folds.fold_slice.Given as goal

-- what lies before the index has its lower case, and the rest is as it was
abbrev pub invariant-loop-byte : goal.invariant-loop-byte
invariant-loop-byte l = l.text ≡ folded (take l.byte-index l.initial.text) ++ drop l.byte-index l.initial.text
