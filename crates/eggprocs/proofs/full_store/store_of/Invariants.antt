use Rattle.std.proofs.Common.{◌≡◌, map, take}
use Rattle.eggprocs.specs.Procs.{name_of}
use Rattle.eggprocs.proofs.full_store.store_of.Given as goal

-- the names so far
abbrev pub invariant-loop-which : goal.invariant-loop-which
invariant-loop-which l = l.store ≡ map name_of (take l.which-index l.procs)
