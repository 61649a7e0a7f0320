use Rattle.std.proofs.Common.{◌≡◌, take}
use Rattle.std.specs.List.{filter_map}
use Rattle.procs.specs.declared.limits.TheConstants.{MAX_ACTIONS}
use Rattle.eggprocs.specs.Looks.{look_for}
use Rattle.eggprocs.proofs.turns.looks.Given as goal

-- the looks for the actions so far
abbrev pub invariant-loop-action : goal.invariant-loop-action
invariant-loop-action l = l.actions ≡ take MAX_ACTIONS (filter_map (look_for l.turn l.call l.view) (take l.action-index l.wanted))
