use Rattle.std.proofs.Common.{◌≡◌, ◌++◌, length}
use Rattle.procs.specs.Calls.{called, numbers_of, seen}
use Rattle.procs.proofs.table.BindTable.find.Given as goal

-- the numbers so far, and those to come, are all
abbrev pub invariant-loop-bind : goal.invariant-loop-bind
invariant-loop-bind l = l.numbers ++ numbers_of l.called ≡ numbers_of (called (seen l.fn.event) l.fn.self.binds)

abbrev pub decreases-loop-bind : goal.decreases-loop-bind
decreases-loop-bind l = length l.called
