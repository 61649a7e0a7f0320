-- A journal over many calls and crashes. The definitions leave open what two images have to be, and what the calls are:
-- a journal of values over these texts fills in its own.
use Rattle.std.specs.Prelude.{◌≡◌, ◌≢◌, false, true, ℕ, List, IsSome, option_map, Result, Ok, Err}
use Rattle.bytetext.specs.declared.failure.Failure.{Failure}
use Rattle.bytetext.specs.declared.failure.Failure.TheVariants.{Refused}
use Rattle.disks.specs.State.{State, IsSettled, moment, may_leave, left_since}
use Rattle.bytejournal.specs.declared.fault.JournalFault.{JournalFault}
use Rattle.bytejournal.specs.declared.fault.JournalFault.TheVariants.{NotAJournal}
use Rattle.bytejournal.specs.declared.journal.Journal.{Journal}
use Rattle.bytejournal.specs.declared.opening.Opened.{Opened}
use Rattle.bytejournal.specs.declared.opening.Returned.{Returned}
use Rattle.bytejournal.specs.Meaning.{meaning, added, rebased, IsWhole}
use Rattle.bytejournal.specs.Journal.{IsEither, HoldsOne, AnyMoment, IsSound, Appends, Rebases, contents_of, first_disk, second_disk}
use Rattle.bytejournal.specs.Opening.{Reopened, Opens, Restarts}

-- where a journal is: in a program, or on two disks that no program uses
pub data Stage (D : Type 0) : Type 0 where
  InProgram : (journal : Journal D) → Stage D
  OnDisks : (first second : D) → Stage D

module _ {D : Type 0} where
  abbrev pub first_of : Stage D → D
  first_of (InProgram journal) = first_disk journal
  first_of (OnDisks first second) = first

  abbrev pub second_of : Stage D → D
  second_of (InProgram journal) = second_disk journal
  second_of (OnDisks first second) = second

module _ {D : Type 0} (state : D → State) where
  -- a crash at some moment between these two states of a disk left this one, and nothing is pending
  pub record IsLeft (from until left : D) : Type 0 where
    pub image : left_since (state until) (moment (state from)) (state left).seen
    pub settled : IsSettled (state left)

  -- a call that returned, or one that a crash ended at any moment
  pub data Happens (Calls : Stage D → Stage D → Type 0) : Stage D → Stage D → Type 0 where
    returned : {old new : Stage D} → Calls old new → Happens Calls old new
    crashed : {old new : Stage D} {first second : D} → Calls old new → IsLeft (first_of old) (first_of new) first
        → IsLeft (second_of old) (second_of new) second → Happens Calls old (OnDisks first second)

  -- any number of calls and crashes, one after another
  pub data Lives (Calls : Stage D → Stage D → Type 0) : Stage D → Stage D → Type 0 where
    so_far : {stage : Stage D} → Lives Calls stage stage
    more : {first next last : Stage D} → Happens Calls first next → Lives Calls next last → Lives Calls first last

  -- whatever a crash leaves on these disks now is a journal
  abbrev pub IsRecoverable : (List ℕ → List ℕ → Type 0) → D → D → Type 0
  IsRecoverable IsJournal first second = (x y : List ℕ) → may_leave (state first) x → may_leave (state second) y → IsJournal x y

  -- a journal that a program holds may be called, and whatever a crash leaves is a journal
  abbrev pub IsIntact : (Journal D → Type 0) → (List ℕ → List ℕ → Type 0) → Stage D → Type 0
  IsIntact MayCall IsJournal (InProgram journal) = MayCall journal × IsRecoverable IsJournal (first_disk journal) (second_disk journal)
  IsIntact MayCall IsJournal (OnDisks first second) = IsRecoverable IsJournal first second

-- ---- a journal of texts

-- two images are a journal's: they mean its contents, and all their gates exist
pub record IsJournal (first second : List ℕ) : Type 0 where
  pub some : IsSome (meaning first second)
  pub first_whole : IsWhole first
  pub second_whole : IsWhole second

module _ {D : Type 0} where
  -- the journal that was opened, or the disks that were handed back
  abbrev pub after_opening : Result (Opened D) (Returned D) → Stage D
  after_opening (Ok opened) = InProgram opened.journal
  after_opening (Err handed) = OnDisks handed.disks.first handed.disks.second

  -- the disks were not rejected as holding no journal, and all gates existed
  abbrev pub FindsJournal : Result (Opened D) (Returned D) → Type 0
  FindsJournal (Ok opened) = opened.whole ≡ true
  FindsJournal (Err handed) = handed.error ≢ Refused NotAJournal

module _ {D : Type 0} (state : D → State) where
  -- The clauses of `append`, and those of `rebase`.
  pub record Appended (old : Journal D) (entry : List ℕ) (result : Result (Unit {0}) (Failure JournalFault)) (new : Journal D) : Type 0 where
    pub sound : IsSound state new
    pub row : Appends state old entry result new
    pub any_moment : old.spent ≡ false
        → AnyMoment state old new (IsEither (HoldsOne state old) (contents_of state old) (option_map (added entry) (contents_of state old)))

  pub record Rebased (old : Journal D) (layout : ℕ) (base : List ℕ) (result : Result (Unit {0}) (Failure JournalFault)) (new : Journal D) : Type 0 where
    pub sound : IsSound state new
    pub row : Rebases state old layout base result new
    pub any_moment : old.spent ≡ false
        → AnyMoment state old new (IsEither (HoldsOne state old) (contents_of state old) (option_map (rebased layout base) (contents_of state old)))

  -- a call that returned
  pub data Calls : Stage D → Stage D → Type 0 where
    append : {old new : Journal D} (entry : List ℕ) (result : Result (Unit {0}) (Failure JournalFault)) → Appended old entry result new
        → Calls (InProgram old) (InProgram new)
    rebase : {old new : Journal D} (layout : ℕ) (base : List ℕ) (result : Result (Unit {0}) (Failure JournalFault)) → Rebased old layout base result new
        → Calls (InProgram old) (InProgram new)
    restart : {journal : Journal D} (result : Result (Opened D) (Returned D)) → Restarts state journal result
        → Calls (InProgram journal) (after_opening result)
    into_disks : {journal : Journal D} → Calls (InProgram journal) (OnDisks (first_disk journal) (second_disk journal))
    reopen : {first second first' second' : D} → Reopened (state first) (state first') → Reopened (state second) (state second')
        → Calls (OnDisks first second) (OnDisks first' second')
    opening : {first second : D} (result : Result (Opened D) (Returned D)) → IsSettled (state first) → IsSettled (state second)
        → Opens state first second result → Calls (OnDisks first second) (after_opening result)
