-- A ledger as contracts see it, and what its calls return. The ledger's invariant says what holds of its disks.
use Rattle.std.specs.Prelude.{◌≡◌, ◌≢◌, ◌⊎◌, ◌≤◌, ◌+◌, ◌-◌, ◌^◌, ℕ, Bool, true, false, Option, None, Some, List, Result, Ok, Err}
use Rattle.bytetext.specs.declared.failure.Failure.{Failure}
use Rattle.bytetext.specs.declared.failure.Failure.TheVariants.{Refused, NoMemory}
use Rattle.std.specs.List.{AllByRecursion}
use Rattle.disks.specs.declared.disk.DiskFault.{DiskFault}
use Rattle.disks.specs.Events.{openings}
use Rattle.disks.specs.State.{State, Rose, may_leave}
use Rattle.bytejournal.specs.declared.fault.JournalFault.{JournalFault}
use Rattle.bytejournal.specs.declared.fault.JournalFault.TheVariants.{DiskFault as DiskFailed, NotAJournal, Spent, GenerationsSpent as NoMoreLeft}
use Rattle.bytejournal.specs.declared.opening.Returned.{Returned}
use Rattle.bytejournal.specs.Journal.{EachMoment}
use Rattle.bytejournal.specs.Opening.{CannotCreate, HoldByte, Untouched}
use Rattle.botjournal.specs.declared.base.Base.{Base}
use Rattle.botjournal.specs.declared.entry.Entry.{Entry}
use Rattle.botjournal.specs.declared.found.Found.{Found}
use Rattle.botjournal.specs.declared.found.RebaseFault.{RebaseFault}
use Rattle.botjournal.specs.declared.found.RebaseFault.TheVariants.{GenerationsSpent, DiskFault as AnyDiskFailed}
use Rattle.botjournal.specs.Bases.{IsGoodBase}
use Rattle.botjournal.specs.Entries.{IsGoodEntry}
use Rattle.botjournal.specs.Contents.{Contents, added, rebased, new_contents, meaning}
use Rattle.botjournal.specs.Journal.{IsEither}
use Rattle.botjournal.specs.Recovery.{IsJournal}

-- ---- what a ledger is

-- what was being written when a disk failed: one more entry, or another base
pub data Pending : Type 0 where
  Adding : (entry : Entry) → Pending
  Rebasing : (base : Base) → Pending

-- what is kept, what is in doubt, and whether the ledger takes nothing but a restart
pub record Account : Type 0 where
  pub contents : Contents
  pub doubt : Option Pending
  pub down : Bool

-- The two disks, with all that happened to them. Room that a call makes on a disk isn't visible, so the disks are the
-- same after a call that wrote nothing.
pub record Device : Type 0 where
  pub first : State
  pub second : State

pub record Ledger : Type 0 where
  pub account : Account
  pub device : Device

abbrev pub without_room : State → State
without_room disk = record disk { calls = 0; end = 0 }

abbrev pub device_on : State → State → Device
device_on first second = record { first = without_room first; second = without_room second }

-- the contents once this is written
abbrev pub written : Pending → Contents → Contents
written (Adding entry) contents = added entry contents
written (Rebasing base) contents = rebased base contents

abbrev pub written_if : Option Pending → Contents → Contents
written_if None contents = contents
written_if (Some pending) contents = written pending contents

-- what is kept if what is in doubt counts
abbrev pub counted : Account → Contents
counted account = written_if account.doubt account.contents

-- these contents, and nothing in doubt
abbrev pub settled : Contents → Account
settled contents = record { contents = contents; doubt = None; down = false }

-- a disk failed between these two states
abbrev pub Failed : Device → Device → Type 0
Failed before now = Rose before.first.failed now.first.failed ⊎ Rose before.second.failed now.second.failed

-- each disk was reopened once
abbrev pub Reopens : Device → Device → Type 0
Reopens before now = (openings now.first.events ≡ openings before.first.events + 1)
    × (openings now.second.events ≡ openings before.second.events + 1)

-- what a crash at any moment between these two states may have left has `P`
abbrev pub AtEachMoment : Device → Device → (List ℕ → List ℕ → Type 0) → Type 0
AtEachMoment before now P = EachMoment before.first before.second now.first now.second P

-- these disks are still the device: nothing happened to them since
abbrev pub AreStill : State → State → Device → Type 0
AreStill first second device = (device.first.seen ≡ first.seen) × (device.first.events ≡ first.events)
    × (device.second.seen ≡ second.seen) × (device.second.events ≡ second.events)

-- the device forgets no failure of these disks
abbrev pub NoFewer : State → State → Device → Type 0
NoFewer first second device = (first.failed ≤ device.first.failed) × (second.failed ≤ device.second.failed)

-- a disk failed while this was written
abbrev pub FailsAt : Pending → Ledger → Ledger → Type 0
FailsAt pending old new =
    (new.account ≡ record { contents = old.account.contents; doubt = Some pending; down = true }) × Failed old.device new.device

-- this was written
abbrev pub Writes : Pending → Ledger → Ledger → Type 0
Writes pending old new =
    new.account ≡ record { contents = written pending old.account.contents; doubt = old.account.doubt; down = old.account.down }

-- at each moment of a call a crash leaves what was kept, or that with this written
abbrev pub LeavesEither : Pending → Ledger → Ledger → Type 0
LeavesEither pending old new =
    AtEachMoment old.device new.device (IsEither (Some old.account.contents) (Some (written pending old.account.contents)))

-- ---- what the calls return

-- Appending an entry, by cases on the result.
abbrev pub Appends : Ledger → Entry → Result (Unit {0}) (Failure DiskFault) → Ledger → Type 0
Appends old entry (Ok _) new = Writes (Adding entry) old new
Appends old entry (Err (Refused _)) new = FailsAt (Adding entry) old new
Appends old entry (Err NoMemory) new = new ≡ old

-- Replacing the base, by cases on the result.
abbrev pub Rebases : Ledger → Base → Result (Unit {0}) (Failure RebaseFault) → Ledger → Type 0
Rebases old base (Ok _) new = Writes (Rebasing base) old new
Rebases old base (Err (Refused GenerationsSpent)) new = (old.account.contents.generation ≡ 2 ^ 32 - 1) × (new ≡ old)
Rebases old base (Err (Refused AnyDiskFailed)) new = FailsAt (Rebasing base) old new
Rebases old base (Err NoMemory) new = (old.account.contents.generation ≢ 2 ^ 32 - 1) × (new ≡ old)

-- what was found is the base and entries of these contents
abbrev pub IsFound : Found → Contents → Type 0
IsFound found contents = (found.base ≡ contents.base) × (found.entries ≡ contents.entries)

-- all stays, but the ledger takes nothing until the next restart
abbrev pub StaysDown : Ledger → Ledger → Type 0
StaysDown old new = new.account ≡ record { contents = old.account.contents; doubt = old.account.doubt; down = true }

-- A restart, by cases on the result.
abbrev pub Restarts : Ledger → Result Found (Failure DiskFault) → Ledger → Type 0
Restarts old (Ok found) new =
    ((new.account ≡ settled old.account.contents) ⊎ (new.account ≡ settled (counted old.account))) × IsFound found new.account.contents
Restarts old (Err (Refused _)) new = StaysDown old new × Failed old.device new.device
Restarts old (Err NoMemory) new = StaysDown old new

-- ---- the disks

-- whatever a crash leaves on the disks means what is kept, or that with what is in doubt, and all gates exist
abbrev pub Leaves : State → State → Account → Type 0
Leaves first second account = (x y : List ℕ) → may_leave first x → may_leave second y
    → IsEither (Some account.contents) (Some (counted account)) x y

-- ---- disks that are given and handed back

module _ {D : Type 0} (state : D → State) where
  -- Creating a ledger, by cases on the result.
  abbrev pub Creates : D → D → Base → Result Ledger (Returned D) → Type 0
  Creates first second base (Ok ledger) = ledger.account ≡ settled (new_contents base)
  Creates first second base (Err returned) =
      CannotCreate (state first) (state second) returned.error (state returned.disks.first) (state returned.disks.second)

  -- why a ledger wasn't opened
  abbrev pub Refuses : D → D → Failure JournalFault → D → D → Type 0
  Refuses first second (Refused DiskFailed) first' second' =
      Rose (state first).failed (state first').failed ⊎ Rose (state second).failed (state second').failed
  Refuses first second (Refused NotAJournal) first' second' = IsJournal (state first).seen (state second).seen → ⊥
  Refuses first second (Refused Spent) first' second' = ⊥
  Refuses first second (Refused NoMoreLeft) first' second' = ⊥
  Refuses first second NoMemory first' second' = HoldByte (state first) (state second)

  -- Opening a ledger, by cases on the result.
  abbrev pub Opens : D → D → Result (Ledger × Found) (Returned D) → Type 0
  Opens first second (Ok opened) = (meaning (state first).seen (state second).seen ≡ Some opened.0.account.contents)
      × (opened.0.account ≡ settled opened.0.account.contents) × IsFound opened.1 opened.0.account.contents
  Opens first second (Err returned) = Refuses first second returned.error returned.disks.first returned.disks.second
      × Untouched (state first) (state returned.disks.first) × Untouched (state second) (state returned.disks.second)

-- what was found has spellings, and may be written again
abbrev pub IsGoodFound : Found → Type 0
IsGoodFound found = IsGoodBase found.base × AllByRecursion IsGoodEntry found.entries
