-- What the calls of a bot's journal return. Contracts see a bot's journal as the journal of texts that it stands on.
use Rattle.std.specs.Prelude.{◌≡◌, ◌≢◌, ◌⊎◌, ◌+◌, ◌-◌, ◌^◌, Bool, true, false, if◌then◌else◌, ℕ, Option, Some, None, List, IsSome, option_map, Result, Ok, Err}
use Rattle.std.specs.Option.{is_some}
use Rattle.std.specs.List.{AllByRecursion}
use Rattle.bytetext.specs.declared.failure.Failure.{Failure}
use Rattle.bytetext.specs.declared.failure.Failure.TheVariants.{Refused, NoMemory}
use Rattle.disks.specs.State.{State, Rose}
use Rattle.bytejournal.specs.declared.fault.JournalFault.{JournalFault}
use Rattle.bytejournal.specs.declared.fault.JournalFault.TheVariants.{DiskFault, NotAJournal, Spent, GenerationsSpent}
use Rattle.bytejournal.specs.declared.journal.Journal.{Journal as OfTexts}
use Rattle.bytejournal.specs.declared.opening.Returned.{Returned}
use Rattle.bytejournal.specs.declared.opening.Older.{Older}
use Rattle.bytejournal.specs.declared.opening.Opened.{Opened as OpenedTexts}
use Rattle.bytejournal.specs.Meaning.{Contents as Texts, IsWhole}
use Rattle.bytejournal.specs.Journal.{IsAtRest as AreTextsAtRest, DiskFailed, SameDisks, first_disk, second_disk, contents_of as texts_of}
use Rattle.bytejournal.specs.Opening.{CannotCreate, HoldByte, Untouched, Reopened}
use Rattle.botjournal.specs.declared.base.Base.{Base}
use Rattle.botjournal.specs.declared.entry.Entry.{Entry}
use Rattle.botjournal.specs.declared.TheConstants.{LAYOUT}
use Rattle.botjournal.specs.declared.opening.OpenedJournal.{OpenedJournal}
use Rattle.botjournal.specs.declared.sums.Seal.{Seal}
use Rattle.botjournal.specs.declared.layouts.Layout.TheVariants.{Fourth}
use Rattle.botjournal.specs.Bases.{IsGoodBase}
use Rattle.botjournal.specs.Entries.{IsGoodEntry}
use Rattle.botjournal.specs.Contents.{Contents, added, rebased, new_contents, seal_by, spelled, meaning}

-- two images mean `before` or `after`, and all their gates exist
pub record IsEither (before after : Option Contents) (first second : List ℕ) : Type 0 where
  pub means : (meaning first second ≡ before) ⊎ (meaning first second ≡ after)
  pub first_whole : IsWhole first
  pub second_whole : IsWhole second

-- this is the seal after these texts, if they are in the layout that is written
abbrev pub AreSealed : Option Texts → Seal → Type 0
AreSealed None seal = Unit {0}
AreSealed (Some texts) seal = texts.layout ≡ LAYOUT → seal_by Fourth texts ≡ Some seal

module _ {D : Type 0} (state : D → State) where
  -- the seal that a journal keeps is the one after its texts
  abbrev pub IsSealed : OfTexts D → Seal → Type 0
  IsSealed journal seal = journal.spent ≡ false → AreSealed (texts_of state journal) seal

  -- what the journal's disks mean
  abbrev pub contents_of : OfTexts D → Option Contents
  contents_of journal = meaning (state journal.active).seen (state journal.idle).seen

  -- between two calls: the journal of texts is at rest, and each text on its disks is a spelling
  pub record IsAtRest (journal : OfTexts D) : Type 0 where
    pub texts : AreTextsAtRest state journal
    pub some : IsSome (contents_of journal)

  -- after a fault nothing is known until the journal is opened again
  abbrev pub IsSound : OfTexts D → Type 0
  IsSound journal = journal.spent ≡ false → IsAtRest journal

  -- Appending an entry, by cases on the result.
  abbrev pub Appends : OfTexts D → Entry → Result (Unit {0}) (Failure JournalFault) → OfTexts D → Type 0
  Appends old entry (Ok _) new = (old.spent ≡ false) × (new.spent ≡ false) × (contents_of new ≡ option_map (added entry) (contents_of old))
  Appends old entry (Err (Refused DiskFault)) new = (old.spent ≡ false) × (new.spent ≡ true) × DiskFailed state old new
  Appends old entry (Err (Refused NotAJournal)) new = ⊥
  Appends old entry (Err (Refused Spent)) new = (old.spent ≡ true) × (new ≡ old)
  Appends old entry (Err (Refused GenerationsSpent)) new = ⊥
  Appends old entry (Err NoMemory) new = (old.spent ≡ false) × (new.spent ≡ false) × SameDisks state old new × (contents_of new ≡ contents_of old)

  -- Replacing the base, by cases on the result.
  abbrev pub Rebases : OfTexts D → Base → Result (Unit {0}) (Failure JournalFault) → OfTexts D → Type 0
  Rebases old base (Ok _) new = (old.spent ≡ false) × (new.spent ≡ false) × (new.layout ≡ LAYOUT) × (new.generation ≡ old.generation + 1)
      × (contents_of new ≡ option_map (rebased base) (contents_of old))
  Rebases old base (Err (Refused DiskFault)) new = (old.spent ≡ false) × (new.spent ≡ true) × DiskFailed state old new
  Rebases old base (Err (Refused NotAJournal)) new = ⊥
  Rebases old base (Err (Refused Spent)) new = (old.spent ≡ true) × (new ≡ old)
  Rebases old base (Err (Refused GenerationsSpent)) new = (old.spent ≡ false) × (old.generation ≡ 2 ^ 32 - 1) × (new ≡ old)
  Rebases old base (Err NoMemory) new = (old.spent ≡ false) × (old.generation ≢ 2 ^ 32 - 1) × (new.spent ≡ false) × SameDisks state old new
      × (contents_of new ≡ contents_of old)

  -- Creating a journal, by cases on the result.
  abbrev pub Creates : D → D → Base → Result (OfTexts D) (Returned D) → Type 0
  Creates first second base (Ok journal) = (journal.spent ≡ false) × IsAtRest journal × (contents_of journal ≡ Some (new_contents base))
  Creates first second base (Err returned) = CannotCreate (state first) (state second) returned.error (state returned.disks.first) (state returned.disks.second)

  -- what an opened journal was found to hold
  abbrev pub contents_found : OpenedJournal D → Contents
  contents_found opened =
      record { layout = opened.journal.layout; generation = opened.journal.generation; base = opened.base; entries = opened.entries }

  -- The journal was opened on disks with these bytes. If it is whole, it is at rest.
  pub record IsOpened (first second : List ℕ) (opened : OpenedJournal D) : Type 0 where
    pub found : meaning first second ≡ Some (contents_found opened)
    pub going : opened.journal.spent ≡ false
    pub whole : IsWhole first → IsWhole second → opened.whole ≡ true
    pub at_rest : opened.whole ≡ true → IsAtRest opened.journal

  -- why a journal wasn't opened
  abbrev pub Refuses : D → D → Failure JournalFault → D → D → Type 0
  Refuses first second (Refused DiskFault) first' second' = Rose (state first).failed (state first').failed ⊎ Rose (state second).failed (state second').failed
  Refuses first second (Refused NotAJournal) first' second' = meaning (state first).seen (state second).seen ≡ None
  Refuses first second (Refused Spent) first' second' = ⊥
  Refuses first second (Refused GenerationsSpent) first' second' = ⊥
  Refuses first second NoMemory first' second' = HoldByte (state first) (state second)

  -- Opening a journal, by cases on the result.
  abbrev pub Opens : D → D → Result (OpenedJournal D) (Returned D) → Type 0
  Opens first second (Ok opened) = IsOpened (state first).seen (state second).seen opened
      × Untouched (state first) (state (first_disk opened.journal)) × Untouched (state second) (state (second_disk opened.journal))
  Opens first second (Err returned) = Refuses first second returned.error returned.disks.first returned.disks.second
      × Untouched (state first) (state returned.disks.first) × Untouched (state second) (state returned.disks.second)

  -- Opening a journal again on what a crash left of its disks.
  abbrev pub Restarts : OfTexts D → Result (OpenedJournal D) (Returned D) → Type 0
  Restarts journal result = (first : D) × (second : D) × Reopened (state (first_disk journal)) (state first)
      × Reopened (state (second_disk journal)) (state second) × Opens first second result

-- whether the texts of the disk that doesn't count spell a base and entries, if its gate is open
abbrev pub is_spelled : Option Older → Bool
is_spelled None = true
is_spelled (Some older) =
    is_some (spelled (record { layout = older.layout; generation = older.generation; base = older.base; entries = older.entries }))

-- why the texts of an opened journal were not read
abbrev pub CannotRead : Option Contents → Failure JournalFault → Type 0
CannotRead contents (Refused DiskFault) = ⊥
CannotRead contents (Refused NotAJournal) = contents ≡ None
CannotRead contents (Refused Spent) = ⊥
CannotRead contents (Refused GenerationsSpent) = ⊥
CannotRead contents NoMemory = Unit {0}

module _ {D : Type 0} where
  -- what an opened journal holds has spellings, and may be written again
  abbrev pub IsGoodOpened : OpenedJournal D → Type 0
  IsGoodOpened opened = IsGoodBase opened.base × AllByRecursion IsGoodEntry opened.entries

  -- the result isn't that the disks hold no journal
  abbrev pub IsNotRefused : Result (OpenedJournal D) (Returned D) → Type 0
  IsNotRefused (Ok opened) = Unit {0}
  IsNotRefused (Err returned) = returned.error ≢ Refused NotAJournal

  -- the texts that count
  abbrev pub texts_found : OpenedTexts D → Texts
  texts_found texts = record { layout = texts.journal.layout; generation = texts.journal.generation; base = texts.base; entries = texts.entries }

  -- the contents of the texts that were found: none if a text on the other disk spells nothing
  abbrev pub contents_read : OpenedTexts D → Option Contents
  contents_read texts = if is_spelled texts.older then spelled (texts_found texts) else None

  -- Reading the texts of an opened journal, by cases on the result: the disks are handed on as they are.
  abbrev pub ReadsTexts : OpenedTexts D → Result (OpenedJournal D) (Returned D) → Type 0
  ReadsTexts texts (Ok opened) = (opened.journal ≡ texts.journal) × (opened.whole ≡ texts.whole)
      × (contents_read texts
      ≡ Some (record { layout = texts.journal.layout; generation = texts.journal.generation; base = opened.base; entries = opened.entries }))
  ReadsTexts texts (Err returned) = CannotRead (contents_read texts) returned.error
      × (returned.disks.first ≡ first_disk texts.journal) × (returned.disks.second ≡ second_disk texts.journal)
