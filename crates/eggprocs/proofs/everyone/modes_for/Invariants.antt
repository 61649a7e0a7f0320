use Rattle.std.proofs.Common.{◌≡◌, take}
use Rattle.std.specs.List.{filter_map}
use Rattle.procs.specs.declared.limits.TheConstants.{MAX_ACTIONS}
use Rattle.eggprocs.specs.Everyone.{mode_for}
use Rattle.eggprocs.proofs.everyone.modes_for.Given as goal

-- the modes of the members so far
abbrev pub invariant-loop-member : goal.invariant-loop-member
invariant-loop-member l = l.actions ≡ take MAX_ACTIONS (filter_map (mode_for l.call l.view) (take l.member-index l.members))
