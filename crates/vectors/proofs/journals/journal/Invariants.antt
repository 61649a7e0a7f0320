use Rattle.disks.specs.Memory.{state_of}
use Rattle.bytejournal.specs.Journal.{IsSound}
use Rattle.vectors.proofs.journals.journal.Given as goal

-- the journal stays sound
abbrev pub invariant-loop-i : goal.invariant-loop-i
invariant-loop-i l = IsSound state_of l.journal
