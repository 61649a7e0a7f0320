-- Rewriting an older journal that was opened, with the state alone, before its end returns.
use Rattle.std.specs.Prelude.{◌≡◌, ◌≢◌, ◌⊎◌, ◌-◌, ◌^◌, List, ℕ, Some, Result, Ok, Err}
use Rattle.bytetext.specs.declared.failure.Failure.{Failure}
use Rattle.bytetext.specs.declared.failure.Failure.TheVariants.{Refused, NoMemory}
use Rattle.disks.specs.declared.disk.DiskFault.{DiskFault as DiskFailed}
use Rattle.disks.specs.State.{State}
use Rattle.bytejournal.specs.declared.fault.JournalFault.{JournalFault}
use Rattle.bytejournal.specs.declared.fault.JournalFault.TheVariants.{DiskFault, NotAJournal, Spent, GenerationsSpent}
use Rattle.bytejournal.specs.declared.opening.Returned.{Returned}
use Rattle.bytejournal.specs.Meaning.{IsWhole}
use Rattle.botjournal.specs.Contents.{Contents, meaning}
use Rattle.botjournal.specs.Ledger.{Ledger, Pending, Device, Failed, AtEachMoment, device_on, written}

-- the journal's error when a disk failed
abbrev pub journal_error : Failure DiskFailed → Failure JournalFault
journal_error (Refused fault) = Refused DiskFault
journal_error NoMemory = NoMemory

-- these bytes mean what the journal held, or that with this written, which it may take; and all gates exist
pub record IsHeldOr (may : Type 0) (pending : Pending) (contents : Contents) (x y : List ℕ) : Type 0 where
  pub means : (meaning x y ≡ Some contents) ⊎ (may × (meaning x y ≡ Some (written pending contents)))
  pub first_whole : IsWhole x
  pub second_whole : IsWhole y

-- why it can't be rewritten: memory is asked for only if there is a next generation
abbrev pub CannotPut : Ledger → Failure JournalFault → Device → Type 0
CannotPut ledger (Refused DiskFault) now = Failed ledger.device now
CannotPut ledger (Refused NotAJournal) now = ⊥
CannotPut ledger (Refused Spent) now = ⊥
CannotPut ledger (Refused GenerationsSpent) now = ledger.account.contents.generation ≡ 2 ^ 32 - 1
CannotPut ledger NoMemory now = ledger.account.contents.generation ≢ 2 ^ 32 - 1

-- the disks that are handed back
abbrev pub returned_device : {D : Type 0} → (D → State) → Returned D → Device
returned_device disk returned = device_on (disk returned.disks.first) (disk returned.disks.second)

module _ {D V : Type 0} (disk : D → State) where
  -- Rewriting the journal with what an end keeps, which it may take, by cases on the result.
  abbrev pub PutsAnew : Type 0 → (Device → V) → (V → Device) → Ledger → Result V (Returned D) → Type 0
  PutsAnew may resting device_in ledger (Ok end) = may × (end ≡ resting (device_in end))
  PutsAnew may resting device_in ledger (Err returned) = CannotPut ledger returned.error (returned_device disk returned)

  -- At each moment of it a crash leaves what the journal held, or that with this written.
  abbrev pub PutsAnewAtEachMoment : Type 0 → Pending → (V → Device) → Ledger → Result V (Returned D) → Type 0
  PutsAnewAtEachMoment may pending device_in ledger (Ok end) =
      AtEachMoment ledger.device (device_in end) (IsHeldOr may pending ledger.account.contents)
  PutsAnewAtEachMoment may pending device_in ledger (Err returned) =
      AtEachMoment ledger.device (returned_device disk returned) (IsHeldOr may pending ledger.account.contents)
