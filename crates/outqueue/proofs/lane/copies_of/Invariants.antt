use Rattle.std.proofs.Common.{◌≡◌, take}
use Rattle.outqueue.proofs.lane.copies_of.Given as goal

-- the lines so far are copied
abbrev pub invariant-loop-at : goal.invariant-loop-at
invariant-loop-at l = l.copies.items ≡ take l.at l.lines.items
