-- A bot's journal over many calls and crashes. Each call does what the clauses of `Journal` say; stages, crashes and
-- what a crash leaves are those of the journal of texts.
use Rattle.std.specs.Prelude.{◌≡◌, ◌≢◌, false, true, List, ℕ, IsSome, option_map, Result, Ok, Err}
use Rattle.bytetext.specs.declared.failure.Failure.{Failure}
use Rattle.bytetext.specs.declared.failure.Failure.TheVariants.{Refused}
use Rattle.disks.specs.State.{State, IsSettled}
use Rattle.bytejournal.specs.declared.fault.JournalFault.{JournalFault}
use Rattle.bytejournal.specs.declared.fault.JournalFault.TheVariants.{NotAJournal}
use Rattle.bytejournal.specs.declared.journal.Journal.{Journal as OfTexts}
use Rattle.bytejournal.specs.declared.opening.Returned.{Returned}
use Rattle.bytejournal.specs.Meaning.{IsWhole}
use Rattle.bytejournal.specs.Journal.{AnyMoment, first_disk, second_disk}
use Rattle.bytejournal.specs.Opening.{Reopened}
use Rattle.bytejournal.specs.Recovery.{Stage}
use Rattle.bytejournal.specs.Recovery.Stage.{InProgram, OnDisks}
use Rattle.botjournal.specs.declared.base.Base.{Base}
use Rattle.botjournal.specs.declared.entry.Entry.{Entry}
use Rattle.botjournal.specs.declared.opening.OpenedJournal.{OpenedJournal}
use Rattle.botjournal.specs.Contents.{meaning, added, rebased}
use Rattle.botjournal.specs.Journal.{IsEither, IsSound, Appends, Rebases, Opens, Restarts, contents_of}

-- two images are a bot's journal: they mean a base and entries, and all their gates exist
pub record IsJournal (first second : List ℕ) : Type 0 where
  pub some : IsSome (meaning first second)
  pub first_whole : IsWhole first
  pub second_whole : IsWhole second

module _ {D : Type 0} where
  -- the journal that was opened, or the disks that were handed back
  abbrev pub after_opening : Result (OpenedJournal D) (Returned D) → Stage D
  after_opening (Ok opened) = InProgram opened.journal
  after_opening (Err returned) = OnDisks returned.disks.first returned.disks.second

  -- the disks were not rejected as holding no journal, and all gates existed
  abbrev pub FindsJournal : Result (OpenedJournal D) (Returned D) → Type 0
  FindsJournal (Ok opened) = opened.whole ≡ true
  FindsJournal (Err returned) = returned.error ≢ Refused NotAJournal

module _ {D : Type 0} (state : D → State) where
  -- The clauses of `append`, and those of `rebase`.
  pub record Appended (old : OfTexts D) (entry : Entry) (result : Result (Unit {0}) (Failure JournalFault)) (new : OfTexts D) : Type 0 where
    pub sound : IsSound state new
    pub row : Appends state old entry result new
    pub any_moment : old.spent ≡ false
        → AnyMoment state old new (IsEither (contents_of state old) (option_map (added entry) (contents_of state old)))

  pub record Rebased (old : OfTexts D) (base : Base) (result : Result (Unit {0}) (Failure JournalFault)) (new : OfTexts D) : Type 0 where
    pub sound : IsSound state new
    pub row : Rebases state old base result new
    pub any_moment : old.spent ≡ false
        → AnyMoment state old new (IsEither (contents_of state old) (option_map (rebased base) (contents_of state old)))

  -- a call that returned
  pub data Calls : Stage D → Stage D → Type 0 where
    append : {old new : OfTexts D} (entry : Entry) (result : Result (Unit {0}) (Failure JournalFault)) → Appended old entry result new
        → Calls (InProgram old) (InProgram new)
    rebase : {old new : OfTexts D} (base : Base) (result : Result (Unit {0}) (Failure JournalFault)) → Rebased old base result new
        → Calls (InProgram old) (InProgram new)
    restart : {journal : OfTexts D} (result : Result (OpenedJournal D) (Returned D)) → Restarts state journal result
        → Calls (InProgram journal) (after_opening result)
    into_disks : {journal : OfTexts D} → Calls (InProgram journal) (OnDisks (first_disk journal) (second_disk journal))
    reopen : {first second first' second' : D} → Reopened (state first) (state first') → Reopened (state second) (state second')
        → Calls (OnDisks first second) (OnDisks first' second')
    opening : {first second : D} (result : Result (OpenedJournal D) (Returned D)) → IsSettled (state first) → IsSettled (state second)
        → Opens state first second result → Calls (OnDisks first second) (after_opening result)
