use Rattle.std.proofs.Common.{◌≡◌, false, take}
use Rattle.std.specs.List.{list_any}
use Rattle.std.specs.Str.{bytes_eq}
use Rattle.eggprocs.specs.Everyone.{address_of}
use Rattle.eggprocs.proofs.looks.is_any_of.Given as goal

-- none so far has the address
abbrev pub invariant-loop-member : goal.invariant-loop-member
invariant-loop-member l = list_any (λ member. bytes_eq (address_of member) l.address) (take l.member-index l.members) ≡ false
