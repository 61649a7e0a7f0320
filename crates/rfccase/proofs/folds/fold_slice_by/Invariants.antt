use Rattle.std.proofs.Common.{◌≡◌, ◌++◌, take, drop}
use Rattle.rfccase.specs.Casemapping.{folded_by}
use Rattle.rfccase.proofs.folds.fold_slice_by.Given as goal

-- what lies before the index has its lower case, and the rest is as it was
abbrev pub invariant-loop-byte : goal.invariant-loop-byte
invariant-loop-byte l = l.text ≡ folded_by l.mapping (take l.byte-index l.initial.text) ++ drop l.byte-index l.initial.text
