-- What holds of a ledger's disks, and what a ledger shows.
use Rattle.std.specs.Prelude.{◌≡◌, Bool, true, false, Option, None, Some, [], option_map, Result}
use Rattle.bytetext.specs.declared.failure.Failure.{Failure}
use Rattle.bytetext.specs.declared.failure.Failure.TheVariants.{Refused, NoMemory}
use Rattle.disks.specs.declared.disk.DiskFault.{DiskFault}
use Rattle.disks.specs.State.{State}
use Rattle.bytejournal.specs.declared.fault.JournalFault.{JournalFault}
use Rattle.bytejournal.specs.declared.opening.Disks.{Disks}
use Rattle.bytejournal.specs.declared.journal.Journal.{Journal as OfTexts}
use Rattle.bytejournal.specs.declared.opening.Returned.{Returned}
use Rattle.bytejournal.specs.Opening.{Reopened}
use Rattle.bytejournal.specs.Journal.{first_disk, second_disk}
use Rattle.botjournal.specs.declared.store.Store.{Store}
use Rattle.botjournal.specs.declared.store.Store.TheVariants.{Open, Shut, InHand}
use Rattle.botjournal.specs.declared.store.Doubt.{Doubt}
use Rattle.botjournal.specs.declared.store.Doubt.TheVariants.{Adding as AddingOne, Rebasing as RebasingTo}
use Rattle.botjournal.specs.declared.opening.OpenedJournal.{OpenedJournal}
use Rattle.botjournal.specs.Contents.{Contents}
use Rattle.botjournal.specs.Journal.{IsAtRest, Opens, contents_of}
use Rattle.botjournal.specs.Ledger.{Account, Device, Pending, Leaves, device_on}
use Rattle.botjournal.specs.Ledger.Pending.{Adding, Rebasing}

-- what the snapshot of a write shows
abbrev pub pending_of : Doubt → Pending
pending_of (AddingOne entry) = Adding entry.value
pending_of (RebasingTo base) = Rebasing base.value

-- the contents, if there are any: those of nothing else are never shown
abbrev pub shown : Option Contents → Contents
shown None =
    record { layout = 0; generation = 0; base = record { bot = 0; version = 0; records = []; replies = []; last_request = 0; out = [] }; entries = [] }
shown (Some contents) = contents

-- why the disks of a ledger could not be read
abbrev pub read_error : Failure JournalFault → Failure DiskFault
read_error (Refused fault) = Refused (record {})
read_error NoMemory = NoMemory

module _ {D : Type 0} where
  -- no restart holds the disks
  abbrev pub IsSomewhere : Store D → Type 0
  IsSomewhere (Open journal) = Unit {0}
  IsSomewhere (Shut disks) = Unit {0}
  IsSomewhere InHand = ⊥

  -- these are the disks
  abbrev pub AreIn : Store D → Disks D → Type 0
  AreIn (Open journal) disks = (disks.first ≡ first_disk journal) × (disks.second ≡ second_disk journal)
  AreIn (Shut held) disks = (disks.first ≡ held.first) × (disks.second ≡ held.second)
  AreIn InHand disks = ⊥

abbrev unseen : State
unseen = record { seen = []; events = []; failed = 0; calls = 0; end = 0 }

module _ {D : Type 0} (state : D → State) where
  -- what is kept is what the journal meant when it last was at rest
  abbrev pub account_of : OfTexts D → Option Doubt → Bool → Account
  account_of rested doubt down = record { contents = shown (contents_of state rested); doubt = option_map pending_of doubt; down = down }

  -- the disks wherever they are; while a restart holds them, nothing is shown of them
  abbrev pub device_of : Store D → Device
  device_of (Open journal) = device_on (state (first_disk journal)) (state (second_disk journal))
  device_of (Shut disks) = device_on (state disks.first) (state disks.second)
  device_of InHand = record { first = unseen; second = unseen }

  -- a journal that takes calls: it is at rest and means what is kept, and nothing is in doubt
  pub record IsGoing (journal : OfTexts D) (account : Account) : Type 0 where
    pub going : journal.spent ≡ false
    pub rest : IsAtRest state journal
    pub contents : contents_of state journal ≡ Some account.contents
    pub doubt : account.doubt ≡ None

  -- what holds of the disks of a ledger that is up, and of one that is down
  abbrev pub Stands : Bool → Store D → Account → Type 0
  Stands false (Open journal) account = IsGoing journal account
  Stands false (Shut disks) account = ⊥
  Stands false InHand account = ⊥
  Stands true (Open journal) account = Leaves (state (first_disk journal)) (state (second_disk journal)) account
  Stands true (Shut disks) account = Leaves (state disks.first) (state disks.second) account
  Stands true InHand account = ⊥

  -- Opening a journal on what a crash left of two disks.
  abbrev pub OpensAgain : D → D → Result (OpenedJournal D) (Returned D) → Type 0
  OpensAgain first second result = (first' : D) × (second' : D) × Reopened (state first) (state first') × Reopened (state second) (state second')
      × Opens state first' second' result
