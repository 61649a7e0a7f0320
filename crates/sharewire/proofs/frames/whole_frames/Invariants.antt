use Rattle.std.proofs.Common.{◌≤◌, ◌+◌, length}
use Rattle.sharewire.proofs.frames.whole_frames.Given as goal

-- each frame so far has a byte
abbrev pub invariant-loop-inside : goal.invariant-loop-inside
invariant-loop-inside l = l.count + length l.rest ≤ length l.bytes

abbrev pub decreases-loop-inside : goal.decreases-loop-inside
decreases-loop-inside l = length l.rest
