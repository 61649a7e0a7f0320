-- How a journal is created and opened.
use Rattle.std.specs.Prelude.{◌≡◌, ◌⊎◌, ◌+◌, ◌≤◌, ◌<◌, Bool, true, false, if◌then◌else◌, ℕ, Option, None, Some, List, [], ◌∷◌, ◌++◌, length, option_map, Result, Ok, Err}
use Rattle.std.specs.Option.{is_some}
use Rattle.bytetext.specs.declared.failure.Failure.{Failure}
use Rattle.bytetext.specs.declared.failure.Failure.TheVariants.{Refused, NoMemory}
use Rattle.disks.specs.State.{State, IsSettled, Rose, LeavesOnly, may_leave}
use Rattle.disks.specs.Calls.{Elapses}
use Rattle.disks.specs.Events.{openings}
use Rattle.bytejournal.specs.declared.fault.JournalFault.{JournalFault}
use Rattle.bytejournal.specs.declared.fault.JournalFault.TheVariants.{DiskFault, NotAJournal, Spent, GenerationsSpent}
use Rattle.bytejournal.specs.declared.journal.Journal.{Journal}
use Rattle.bytejournal.specs.declared.opening.Older.{Older}
use Rattle.bytejournal.specs.declared.opening.Opened.{Opened}
use Rattle.bytejournal.specs.declared.opening.Returned.{Returned}
use Rattle.bytejournal.specs.declared.reading.Found.{Found}
use Rattle.bytejournal.specs.declared.reading.Reading.{Reading}
use Rattle.std.specs.Int.{w32, to_be_bytes}
use Rattle.bytejournal.specs.Gates.{with_gate, with_first}
use Rattle.bytejournal.specs.Meaning.{Contents, Held, held, letters, meaning, IsWhole}
use Rattle.bytejournal.specs.Meaning.Held.{Shut, Open}
use Rattle.bytejournal.specs.Reading.{Reads}
use Rattle.bytejournal.specs.Writing.{IsSame}
use Rattle.bytejournal.specs.Journal.{IsAtRest, contents_of, first_disk, second_disk}

-- a new journal's contents
abbrev pub new_contents : ℕ → List ℕ → Contents
new_contents layout base = record { layout = layout; generation = 1; base = base; entries = [] }

-- nothing was written: a read gives what it gave before, and a crash at any moment leaves just that
pub record Untouched (old new : State) : Type 0 where
  pub seen : new.seen ≡ old.seen
  pub events : new.events ≡ old.events
  pub settled : IsSettled new
  pub no_fewer : old.failed ≤ new.failed
  pub any_moment : LeavesOnly old new (λ image. image ≡ old.seen)

-- the disk was crashed and holds what the crash left
pub record Reopened (old new : State) : Type 0 where
  pub left : may_leave old new.seen
  pub settled : IsSettled new
  pub time : Elapses old new
  pub opened : openings new.events ≡ openings old.events + 1
  pub failed : new.failed ≡ old.failed

-- one of two disks holds a byte, so that reading them allocates
abbrev pub HoldByte : State → State → Type 0
HoldByte first second = (0 < length first.seen) ⊎ (0 < length second.seen)

-- reading a whole disk, by cases on the result
abbrev pub ReadsDisk : State → Result Reading (Failure JournalFault) → State → Type 0
ReadsDisk old (Ok reading) new = Reads old.seen reading
ReadsDisk old (Err (Refused DiskFault)) new = Rose old.failed new.failed
ReadsDisk old (Err (Refused NotAJournal)) new = ⊥
ReadsDisk old (Err (Refused Spent)) new = ⊥
ReadsDisk old (Err (Refused GenerationsSpent)) new = ⊥
ReadsDisk old (Err NoMemory) new = 0 < length old.seen

-- why a journal could not be created: a disk failed, or memory ran out before anything was written
abbrev pub CannotCreate : State → State → Failure JournalFault → State → State → Type 0
CannotCreate first second (Refused DiskFault) first' second' = Rose first.failed first'.failed ⊎ Rose second.failed second'.failed
CannotCreate first second (Refused NotAJournal) first' second' = ⊥
CannotCreate first second (Refused Spent) first' second' = ⊥
CannotCreate first second (Refused GenerationsSpent) first' second' = ⊥
CannotCreate first second NoMemory first' second' = IsSame first first' × IsSame second second'

-- what follows the first gate on the disk of a new journal, up to and including the closed gate
abbrev pub new_text : ℕ → List ℕ → List ℕ
new_text layout base = (letters ++ (layout ∷ (to_be_bytes w32 1 ++ (to_be_bytes w32 (length base) ++ base)))) ++ (0 ∷ [])

-- writing a new journal, by cases on the result
abbrev pub WritesNew : State → State → ℕ → List ℕ → Result (Unit {0}) (Failure JournalFault) → State → State → Type 0
WritesNew first second layout base (Ok _) first' second' = (first'.seen ≡ with_gate (with_first first.seen 0) 0 (new_text layout base) 1)
    × (second'.seen ≡ with_first second.seen 0) × IsSettled first' × IsSettled second'
WritesNew first second layout base (Err error) first' second' = CannotCreate first second error first' second'

-- what was found on the disk that doesn't count
abbrev pub older_of : Found → Older
older_of found = record { layout = found.layout; generation = found.generation; base = found.base; entries = found.entries }

-- what the disk holds that doesn't count
abbrev pub held_older : Option Older → Held
held_older None = Shut
held_older (Some older) = Open (record { layout = older.layout; generation = older.generation; base = older.base; entries = older.entries })

module _ {D : Type 0} where
  -- the journal that was found on the active disk, and what was found on the other one
  abbrev pub opened_as : D → D → Bool → Bool → Found → Option Found → Opened D
  opened_as active idle swapped whole found older = record {
    journal = record {
      active = active;
      idle = idle;
      swapped = swapped;
      idle_open = is_some older;
      layout = found.layout;
      generation = found.generation;
      gate =
          found.gate;
      spent = false;
    };
    base = found.base;
    entries = found.entries;
    older = option_map older_of older;
    whole = whole;
  }

  abbrev pub returned_as : Failure JournalFault → D → D → Returned D
  returned_as error first second = record { error = error; disks = record { first = first; second = second } }

module _ {D : Type 0} (state : D → State) where
  -- what an opened journal was found to hold
  abbrev pub contents_found : Opened D → Contents
  contents_found opened =
      record { layout = opened.journal.layout; generation = opened.journal.generation; base = opened.base; entries = opened.entries }

  -- The journal was opened on disks with these bytes. Where it is whole it is at rest.
  pub record IsOpened (first second : List ℕ) (opened : Opened D) : Type 0 where
    pub found : meaning first second ≡ Some (contents_found opened)
    pub active : held (if opened.journal.swapped then second else first) ≡ Open (contents_found opened)
    pub idle : held (if opened.journal.swapped then first else second) ≡ held_older opened.older
    pub going : opened.journal.spent ≡ false
    pub whole : IsWhole first → IsWhole second → opened.whole ≡ true
    pub at_rest : opened.whole ≡ true → IsAtRest state opened.journal

  -- why a journal wasn't opened
  abbrev pub Refuses : D → D → Failure JournalFault → D → D → Type 0
  Refuses first second (Refused DiskFault) first' second' = Rose (state first).failed (state first').failed ⊎ Rose (state second).failed (state second').failed
  Refuses first second (Refused NotAJournal) first' second' = meaning (state first).seen (state second).seen ≡ None
  Refuses first second (Refused Spent) first' second' = ⊥
  Refuses first second (Refused GenerationsSpent) first' second' = ⊥
  Refuses first second NoMemory first' second' = HoldByte (state first) (state second)

  -- the journal that was found on the active disk, and what was found on the other one; the disks are in the same state
  pub record IsOpenedAs (active idle : D) (swapped whole : Bool) (found : Found) (older : Option Found) (opened : Opened D) : Type 0 where
    pub opened_is : opened ≡ opened_as opened.journal.active opened.journal.idle swapped whole found older
    pub active_is : state opened.journal.active ≡ state active
    pub idle_is : state opened.journal.idle ≡ state idle

  -- choosing the active disk, by cases on the result: the disks are handed on in the same state, and as they are where
  -- there is no journal
  abbrev pub Chooses : D → D → Result (Opened D) (Returned D) → Type 0
  Chooses first second (Ok opened) = (state (first_disk opened.journal) ≡ state first) × (state (second_disk opened.journal) ≡ state second)
      × (IsSettled (state first) → IsSettled (state second) → IsOpened (state first).seen (state second).seen opened)
  Chooses first second (Err returned) = (returned.error ≡ Refused NotAJournal) × (meaning (state first).seen (state second).seen ≡ None)
      × (returned.disks.first ≡ first) × (returned.disks.second ≡ second)

  -- Opening a journal, by cases on the result.
  abbrev pub Opens : D → D → Result (Opened D) (Returned D) → Type 0
  Opens first second (Ok opened) = IsOpened (state first).seen (state second).seen opened
      × Untouched (state first) (state (first_disk opened.journal)) × Untouched (state second) (state (second_disk opened.journal))
  Opens first second (Err returned) = Refuses first second returned.error returned.disks.first returned.disks.second
      × Untouched (state first) (state returned.disks.first) × Untouched (state second) (state returned.disks.second)

  -- Creating a journal, by cases on the result.
  abbrev pub Creates : D → D → ℕ → List ℕ → Result (Journal D) (Returned D) → Type 0
  Creates first second layout base (Ok journal) = (journal.spent ≡ false) × IsAtRest state journal
      × (contents_of state journal ≡ Some (new_contents layout base)) × (held (state journal.idle).seen ≡ Shut)
  Creates first second layout base (Err returned) = CannotCreate (state first) (state second) returned.error (state returned.disks.first) (state returned.disks.second)

  -- Opening a journal again on what a crash left of its disks.
  abbrev pub Restarts : Journal D → Result (Opened D) (Returned D) → Type 0
  Restarts journal result = (first : D) × (second : D) × Reopened (state (first_disk journal)) (state first)
      × Reopened (state (second_disk journal)) (state second) × Opens first second result
