use Rattle.std.proofs.Common.{◌≡◌, ◌+◌, ◌*◌, length}
use Rattle.sharelink.specs.Parts.{left}
use Rattle.sharelink.proofs.walk.Walk.opened.Given as goal

-- no record was passed
abbrev pub invariant-loop-open : goal.invariant-loop-open
invariant-loop-open l = left l.open ≡ left l.fn.self

abbrev pub decreases-loop-open : goal.decreases-loop-open
decreases-loop-open l = length l.open.front.now + 2 * length l.open.back.now + length l.open.part.now
