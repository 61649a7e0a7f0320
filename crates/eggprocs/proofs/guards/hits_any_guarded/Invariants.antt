use Rattle.std.proofs.Common.{◌≡◌, false, take}
use Rattle.std.specs.List.{list_any}
use Rattle.eggprocs.specs.Guards.{hits_guarded}
use Rattle.eggprocs.proofs.guards.hits_any_guarded.Given as goal

-- the mask matches no member so far whom `guard` guards
abbrev pub invariant-loop-member : goal.invariant-loop-member
invariant-loop-member l = list_any (hits_guarded l.mask l.call l.view) (take l.member-index l.members) ≡ false
