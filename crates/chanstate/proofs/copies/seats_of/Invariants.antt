use Rattle.std.proofs.Common.{◌≡◌, ◌++◌, map, Some}
use Rattle.std.specs.Vec.Iter.{into_iter_items}
use Rattle.chanstate.proofs.copies.seats_of.Given as goal

-- the seats so far, and those of who is left, are all of them
abbrev pub invariant-loop-member : goal.invariant-loop-member
invariant-loop-member l = l.places.items ++ map (λ m. Some m) (into_iter_items l.member-iterator)
    ≡ map (λ m. Some m) (into_iter_items l.initial.member-iterator)
