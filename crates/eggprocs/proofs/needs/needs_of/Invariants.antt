use Rattle.std.proofs.Common.{◌≡◌, take}
use Rattle.std.specs.List.{filter_map}
use Rattle.procs.specs.declared.limits.TheConstants.{MAX_ACTIONS}
use Rattle.eggprocs.specs.Needs.{need_on}
use Rattle.eggprocs.proofs.needs.needs_of.Given as goal

-- the texts for the channels so far
abbrev pub invariant-loop-name : goal.invariant-loop-name
invariant-loop-name l = l.actions ≡ take MAX_ACTIONS (filter_map (need_on l.view) (take l.name-index l.names))
