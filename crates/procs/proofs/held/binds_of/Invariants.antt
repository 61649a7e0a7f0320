use Rattle.std.proofs.Common.{◌≡◌, take}
use Rattle.procs.proofs.held.binds_of.Given as goal

-- those so far are copied
abbrev pub invariant-loop-one : goal.invariant-loop-one
invariant-loop-one l = l.binds.items ≡ take l.one-index l.held
