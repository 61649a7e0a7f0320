use Rattle.std.proofs.Common.{◌≡◌, length}
use Rattle.userfile.specs.Together.{repeats}
use Rattle.sharelink.specs.Parts.{left, clash}
use Rattle.sharelink.proofs.walk.Walk.repeats.Given as goal

-- none so far clashes with a later one
abbrev pub invariant-loop-record : goal.invariant-loop-record
invariant-loop-record l = repeats clash (left l.rest) ≡ repeats clash (left l.fn.self)

abbrev pub decreases-loop-record : goal.decreases-loop-record
decreases-loop-record l = length (left l.rest)
