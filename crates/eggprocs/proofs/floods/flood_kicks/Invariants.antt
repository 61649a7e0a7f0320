use Rattle.std.proofs.Common.{◌≡◌, take}
use Rattle.std.specs.List.{filter_map}
use Rattle.procs.specs.declared.limits.TheConstants.{MAX_ACTIONS}
use Rattle.eggprocs.specs.Floods.{flood_kick}
use Rattle.eggprocs.proofs.floods.flood_kicks.Given as goal

-- the kicks of the members so far
abbrev pub invariant-loop-member : goal.invariant-loop-member
invariant-loop-member l = l.actions ≡ take MAX_ACTIONS (filter_map (flood_kick l.on l.call l.view) (take l.member-index l.members))
