use Rattle.std.proofs.Common.{◌≡◌, take}
use Rattle.std.specs.List.{flat_map}
use Rattle.procs.specs.declared.limits.TheConstants.{MAX_ACTIONS}
use Rattle.eggprocs.specs.Floods.{flood_on}
use Rattle.eggprocs.proofs.floods.floods_on.Given as goal

-- what is requested on the channels so far
abbrev pub invariant-loop-name : goal.invariant-loop-name
invariant-loop-name l = l.actions ≡ take MAX_ACTIONS (flat_map (λ channel. flood_on channel l.call l.view) (take l.name-index l.names))
