use Rattle.std.proofs.Common.{◌≡◌, take}
use Rattle.std.specs.List.{flat_map}
use Rattle.procs.specs.declared.limits.TheConstants.{MAX_ACTIONS}
use Rattle.eggprocs.specs.Ends.{ends_of}
use Rattle.eggprocs.proofs.ends.all_ends.Given as goal

-- what ends the bans so far
abbrev pub invariant-loop-place : goal.invariant-loop-place
invariant-loop-place l = l.actions ≡ take MAX_ACTIONS (flat_map (ends_of l.second l.view) (take l.place l.userfile.bans))
