use Rattle.std.proofs.Common.{◌≡◌, length}
use Rattle.std.specs.List.{list_any}
use Rattle.sharelink.specs.Parts.{left, clash}
use Rattle.sharelink.proofs.walk.Walk.has_clash.Given as goal

-- none so far clashes
abbrev pub invariant-loop-other : goal.invariant-loop-other
invariant-loop-other l = list_any (clash l.one) (left l.rest) ≡ list_any (clash l.one) (left l.fn.self)

abbrev pub decreases-loop-other : goal.decreases-loop-other
decreases-loop-other l = length (left l.rest)
