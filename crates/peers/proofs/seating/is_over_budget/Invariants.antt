use Rattle.std.proofs.Common.{◌≡◌, ◌+◌, take}
use Rattle.std.specs.List.{sum_by}
use Rattle.peers.specs.declared.seating.TheConstants.{MAX_WAITING}
use Rattle.peers.specs.Hearing.{waiting_for}
use Rattle.peers.proofs.seating.is_over_budget.Given as goal

-- the room that the seats so far leave
abbrev pub invariant-loop-place : goal.invariant-loop-place
invariant-loop-place l = l.room + sum_by waiting_for (take l.place-index l.seats) ≡ MAX_WAITING
