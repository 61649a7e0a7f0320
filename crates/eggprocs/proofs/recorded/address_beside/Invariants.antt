use Rattle.std.proofs.Common.{◌≡◌, false, take}
use Rattle.std.specs.List.{list_any}
use Rattle.eggprocs.specs.Recorded.{is_beside}
use Rattle.eggprocs.proofs.recorded.address_beside.Given as goal

-- the mask matches none of the members so far but the bot and the caller
abbrev pub invariant-loop-member : goal.invariant-loop-member
invariant-loop-member l = list_any (is_beside l.mask l.call l.view) (take l.member-index l.members) ≡ false
