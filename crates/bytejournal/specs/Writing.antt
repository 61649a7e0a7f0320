-- How a text is put on a disk, by cases on the result.
use Rattle.std.specs.Prelude.{◌≡◌, ℕ, List, Result, Ok, Err}
use Rattle.bytetext.specs.declared.failure.Failure.{Failure}
use Rattle.bytetext.specs.declared.failure.Failure.TheVariants.{Refused, NoMemory}
use Rattle.disks.specs.State.{State, IsSettled, Rose}
use Rattle.disks.specs.Calls.{SameBytes}
use Rattle.bytejournal.specs.declared.fault.JournalFault.{JournalFault}
use Rattle.bytejournal.specs.declared.fault.JournalFault.TheVariants.{DiskFault, NotAJournal, Spent, GenerationsSpent}

-- the disk's bytes, what happened to it, what a crash may leave and the number of its failures are as they were
pub record IsSame (old new : State) : Type 0 where
  pub bytes : SameBytes old new
  pub events : new.events ≡ old.events
  pub failed : new.failed ≡ old.failed

-- at Ok a read gives this file, and the file is kept; a fault is one of the disk; if memory ran out, nothing happened
abbrev pub Puts : State → List ℕ → Result (Unit {0}) (Failure JournalFault) → State → Type 0
Puts old file (Ok _) new = (new.seen ≡ file) × IsSettled new
Puts old file (Err (Refused DiskFault)) new = Rose old.failed new.failed
Puts old file (Err (Refused NotAJournal)) new = ⊥
Puts old file (Err (Refused Spent)) new = ⊥
Puts old file (Err (Refused GenerationsSpent)) new = ⊥
Puts old file (Err NoMemory) new = IsSame old new
