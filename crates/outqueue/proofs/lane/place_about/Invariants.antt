use Rattle.std.proofs.Common.{◌≡◌, ℕ, ◌<◌, false, [], get_or}
use Rattle.outqueue.specs.Joining.{is_about}
use Rattle.outqueue.proofs.lane.place_about.Given as goal

-- none of the lines so far is about the channel
abbrev pub invariant-loop-at : goal.invariant-loop-at
invariant-loop-at l = (k : ℕ) → k < l.at → is_about l.channel (get_or l.lines.items k []) ≡ false
