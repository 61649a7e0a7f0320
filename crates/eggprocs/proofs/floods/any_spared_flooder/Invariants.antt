use Rattle.std.proofs.Common.{◌≡◌, false, take}
use Rattle.std.specs.List.{list_any}
use Rattle.eggprocs.specs.Floods.{is_spared_flooder}
use Rattle.eggprocs.proofs.floods.any_spared_flooder.Given as goal

-- bans spare nobody so far who has the address
abbrev pub invariant-loop-member : goal.invariant-loop-member
invariant-loop-member l = list_any (is_spared_flooder l.on l.call l.view) (take l.member-index l.members) ≡ false
