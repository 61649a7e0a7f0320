use Rattle.std.proofs.Common.{◌≡◌, take}
use Rattle.chanstate.specs.Seats.{seated}
use Rattle.chanstate.proofs.copies.copies_of.Given as goal

-- the members on the seats so far
abbrev pub invariant-loop-place : goal.invariant-loop-place
invariant-loop-place l = l.copies.items ≡ seated (take l.place-index l.places)
