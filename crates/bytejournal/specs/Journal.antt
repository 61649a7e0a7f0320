-- What a journal stands for.
use Rattle.std.specs.Prelude.{◌≡◌, ◌≢◌, ◌⊎◌, ◌<◌, ◌≤◌, ◌+◌, ◌-◌, ◌^◌, Bool, true, false, if◌then◌else◌, ℕ, Option, Some, List, length, take, slice_index, option_map, Result, Ok, Err}
use Rattle.bytetext.specs.declared.failure.Failure.{Failure}
use Rattle.bytetext.specs.declared.failure.Failure.TheVariants.{Refused, NoMemory}
use Rattle.disks.specs.State.{State, IsSettled, Rose, moment, left_since}
use Rattle.bytejournal.specs.declared.fault.JournalFault.{JournalFault}
use Rattle.bytejournal.specs.declared.fault.JournalFault.TheVariants.{DiskFault, NotAJournal, Spent, GenerationsSpent}
use Rattle.bytejournal.specs.declared.journal.Journal.{Journal}
use Rattle.bytejournal.specs.Meaning.{Contents, held, meaning, added, rebased, IsFront, IsWhole}
use Rattle.bytejournal.specs.Meaning.Held.{Open}
use Rattle.bytejournal.specs.Writing.{IsSame}

-- beside an active disk of this generation the other disk doesn't count: its first gate is closed, or its generation is
-- older
abbrev pub IdleIs : Bool → ℕ → List ℕ → Type 0
IdleIs false generation bytes = (0 < length bytes) × (slice_index bytes 0 ≢ 1)
IdleIs true generation bytes = (older : Contents) × (held bytes ≡ Open older) × (older.generation < generation)

-- one of two disks holds these contents, whether they count or not
abbrev pub Holds : List ℕ → List ℕ → Contents → Type 0
Holds first second contents = (held first ≡ Open contents) ⊎ (held second ≡ Open contents)

-- Two images mean `before` or `after`, and all their gates exist. The contents that an image holds, whether they count
-- or not, are contents that some disk held before, or those of `after`.
pub record IsEither (Held : Contents → Type 0) (before after : Option Contents) (first second : List ℕ) : Type 0 where
  pub means : (meaning first second ≡ before) ⊎ (meaning first second ≡ after)
  pub nothing_else : (contents : Contents) → Holds first second contents → Held contents ⊎ (after ≡ Some contents)
  pub first_whole : IsWhole first
  pub second_whole : IsWhole second

module _ {D : Type 0} where
  -- the disks in the order in which they were given
  abbrev pub first_disk : Journal D → D
  first_disk journal = if journal.swapped then journal.idle else journal.active

  abbrev pub second_disk : Journal D → D
  second_disk journal = if journal.swapped then journal.active else journal.idle

-- What a crash at any moment may leave on the two disks has `P`: any image of the first beside any image of the second.
pub record EachMoment (first second first' second' : State) (P : List ℕ → List ℕ → Type 0) : Type 0 where
  pub first_later : moment first ≤ moment first'
  pub second_later : moment second ≤ moment second'
  pub each : (x y : List ℕ) → left_since first' (moment first) x → left_since second' (moment second) y → P x y

module _ {D : Type 0} (state : D → State) where
  -- what a crash at any moment between these two states of a journal may leave
  abbrev pub AnyMoment : Journal D → Journal D → (List ℕ → List ℕ → Type 0) → Type 0
  AnyMoment old new P = EachMoment (state (first_disk old)) (state (second_disk old)) (state (first_disk new)) (state (second_disk new)) P

  -- what the journal's disks mean
  abbrev pub contents_of : Journal D → Option Contents
  contents_of journal = meaning (state journal.active).seen (state journal.idle).seen

  -- one of the journal's disks holds these contents
  abbrev pub HoldsOne : Journal D → Contents → Type 0
  HoldsOne journal contents = Holds (state journal.active).seen (state journal.idle).seen contents

  -- Between two calls: a closed gate ends the active disk's entries, the other disk doesn't count, all gates exist and
  -- nothing is pending.
  pub record IsAtRest (journal : Journal D) : Type 0 where
    pub contents : Contents
    pub front : IsFront (take journal.gate (state journal.active).seen) contents
    pub inside : journal.gate < length (state journal.active).seen
    pub closed : slice_index (state journal.active).seen journal.gate ≢ 1
    pub layout : journal.layout ≡ contents.layout
    pub generation : journal.generation ≡ contents.generation
    pub idle : IdleIs journal.idle_open contents.generation (state journal.idle).seen
    pub idle_whole : IsWhole (state journal.idle).seen
    pub active_settled : IsSettled (state journal.active)
    pub idle_settled : IsSettled (state journal.idle)

  -- after a fault nothing is known until the journal is opened again
  abbrev pub IsSound : Journal D → Type 0
  IsSound journal = journal.spent ≡ false → IsAtRest journal

  -- a disk failed between these two states
  abbrev pub DiskFailed : Journal D → Journal D → Type 0
  DiskFailed old new = Rose (state (first_disk old)).failed (state (first_disk new)).failed
      ⊎ Rose (state (second_disk old)).failed (state (second_disk new)).failed

  -- both disks are as they were
  abbrev pub SameDisks : Journal D → Journal D → Type 0
  SameDisks old new = IsSame (state (first_disk old)) (state (first_disk new)) × IsSame (state (second_disk old)) (state (second_disk new))

  -- Appending an entry, by cases on the result.
  abbrev pub Appends : Journal D → List ℕ → Result (Unit {0}) (Failure JournalFault) → Journal D → Type 0
  Appends old entry (Ok _) new = (old.spent ≡ false) × (new.spent ≡ false) × (contents_of new ≡ option_map (added entry) (contents_of old))
  Appends old entry (Err (Refused DiskFault)) new = (old.spent ≡ false) × (new.spent ≡ true) × DiskFailed old new
  Appends old entry (Err (Refused NotAJournal)) new = ⊥
  Appends old entry (Err (Refused Spent)) new = (old.spent ≡ true) × (new ≡ old)
  Appends old entry (Err (Refused GenerationsSpent)) new = ⊥
  Appends old entry (Err NoMemory) new = (old.spent ≡ false) × (new.spent ≡ false) × SameDisks old new × (contents_of new ≡ contents_of old)

  -- Replacing the base by another one, spelled by a layout, by cases on the result.
  abbrev pub Rebases : Journal D → ℕ → List ℕ → Result (Unit {0}) (Failure JournalFault) → Journal D → Type 0
  Rebases old layout base (Ok _) new = (old.spent ≡ false) × (new.spent ≡ false) × (new.layout ≡ layout) × (new.generation ≡ old.generation + 1)
      × (contents_of new ≡ option_map (rebased layout base) (contents_of old))
  Rebases old layout base (Err (Refused DiskFault)) new = (old.spent ≡ false) × (new.spent ≡ true) × DiskFailed old new
  Rebases old layout base (Err (Refused NotAJournal)) new = ⊥
  Rebases old layout base (Err (Refused Spent)) new = (old.spent ≡ true) × (new ≡ old)
  Rebases old layout base (Err (Refused GenerationsSpent)) new = (old.spent ≡ false) × (old.generation ≡ 2 ^ 32 - 1) × (new ≡ old)
  Rebases old layout base (Err NoMemory) new = (old.spent ≡ false) × (old.generation < 2 ^ 32 - 1) × (new.spent ≡ false) × SameDisks old new
      × (contents_of new ≡ contents_of old)
