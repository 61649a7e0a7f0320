use Rattle.std.proofs.Common.{◌≡◌, ◌++◌, take}
use Rattle.bottimers.specs.Countdown.{due_calls}
use Rattle.bottimers.proofs.entries.push_due.Given as goal

-- the calls of those so far stand after the others
abbrev pub invariant-loop-entry : goal.invariant-loop-entry
invariant-loop-entry l = l.calls.items ≡ l.fn.calls.items ++ due_calls l.kind l.to (take l.entry-index l.entries)
