use Rattle.std.proofs.Common.{◌≡◌, ℕ, ◌<◌, false, get_or}
use Rattle.outqueue.specs.Shares.{is_space}
use Rattle.outqueue.proofs.target.space_in.Given as goal

-- none of the bytes so far is a space
abbrev pub invariant-loop-at : goal.invariant-loop-at
invariant-loop-at l = (k : ℕ) → k < l.at → is_space (get_or l.bytes k 0) ≡ false
