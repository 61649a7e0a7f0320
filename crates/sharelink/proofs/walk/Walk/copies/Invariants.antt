use Rattle.std.proofs.Common.{◌≡◌, ◌++◌, length}
use Rattle.sharelink.specs.Parts.{left}
use Rattle.sharelink.proofs.walk.Walk.copies.Given as goal

-- those so far and those that are left are all of them
abbrev pub invariant-loop-record : goal.invariant-loop-record
invariant-loop-record l = l.items.items ++ left l.rest ≡ left l.fn.self

abbrev pub decreases-loop-record : goal.decreases-loop-record
decreases-loop-record l = length (left l.rest)
