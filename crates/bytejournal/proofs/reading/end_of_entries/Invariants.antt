use Rattle.std.proofs.Common.{◌≤◌, ◌-◌, List, ℕ, length, take}
use Rattle.bytejournal.specs.Meaning.{AreEntries}
use Rattle.bytejournal.proofs.reading.end_of_entries.Given as goal

-- the bytes so far are entries
abbrev pub invariant-loop-gate : goal.invariant-loop-gate
invariant-loop-gate l = record { inside : l.gate ≤ length l.bytes; entries : (texts : List (List ℕ)) × AreEntries (take l.gate l.bytes) texts }

abbrev pub decreases-loop-gate : goal.decreases-loop-gate
decreases-loop-gate l = length l.bytes - l.gate
