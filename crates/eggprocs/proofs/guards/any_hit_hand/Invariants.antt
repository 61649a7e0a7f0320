use Rattle.std.proofs.Common.{◌≡◌, false, take}
use Rattle.std.specs.List.{list_any}
use Rattle.eggprocs.specs.Guards.{is_hit_hand}
use Rattle.eggprocs.proofs.guards.any_hit_hand.Given as goal

-- the mask matches no bot of the net so far
abbrev pub invariant-loop-member : goal.invariant-loop-member
invariant-loop-member l = list_any (is_hit_hand l.mask l.call l.view) (take l.member-index l.members) ≡ false
