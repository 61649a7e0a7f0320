use Rattle.std.proofs.Common.{◌≡◌, take}
use Rattle.procs.specs.Index.{AreIndexed}
use Rattle.procs.proofs.keep.copy_of.Given as goal

-- those so far are copied, and have indexes
abbrev pub invariant-loop-one : goal.invariant-loop-one
invariant-loop-one l = record { copied : l.copies.items ≡ take l.one-index l.held; indexed : AreIndexed l.copies.items l.indexes }
