use Rattle.std.proofs.Common.{◌≤◌, ◌-◌, length, take}
use Rattle.bytejournal.specs.Meaning.{AreEntries}
use Rattle.bytejournal.proofs.reading.read_entries.Given as goal

abbrev pub invariant-loop-gate : goal.invariant-loop-gate
invariant-loop-gate l = record { inside : l.gate ≤ length l.bytes; entries : AreEntries (take l.gate l.bytes) l.texts }

abbrev pub decreases-loop-gate : goal.decreases-loop-gate
decreases-loop-gate l = length l.bytes - l.gate
