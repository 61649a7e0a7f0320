-- A journal over many calls and crashes.
use Rattle.std.proofs.Common.{◌≡◌, ⊎_elim, Bool, true, false, ℕ, Option, None, Some, List, Result, Ok, Err, refl, sym, subst}
use Rattle.std.specs.Prelude.{IsSome, if◌then◌else◌, option_map}
use Rattle.bytetext.specs.declared.failure.Failure.{Failure}
use Rattle.bytetext.specs.declared.failure.Failure.TheVariants.{Refused, NoMemory}
use Rattle.disks.specs.State.{State}
use Rattle.bytejournal.specs.declared.fault.JournalFault.{JournalFault}
use Rattle.bytejournal.specs.declared.fault.JournalFault.TheVariants.{DiskFault, NotAJournal, Spent, GenerationsSpent}
use Rattle.bytejournal.specs.declared.journal.Journal.{Journal}
use Rattle.bytejournal.specs.declared.opening.Opened.{Opened}
use Rattle.bytejournal.specs.declared.opening.Returned.{Returned}
use Rattle.bytejournal.specs.Meaning.{Contents, added, rebased, meaning}
use Rattle.bytejournal.specs.Journal.{IsEither, HoldsOne, EachMoment, IsSound, Appends, Rebases, contents_of, first_disk, second_disk}
use Rattle.bytejournal.specs.Opening.{Untouched, Refuses, Creates, Opens, Restarts}
use Rattle.bytejournal.specs.Recovery.{IsJournal, Stage, first_of, second_of, after_opening, FindsJournal, IsRecoverable, Calls, Lives, IsIntact}
use Rattle.bytejournal.specs.Recovery.Stage.{InProgram}
use Rattle.bytejournal.specs.Recovery.Calls.{append, rebase, restart, into_disks, reopen, opening}
use Rattle.bytejournal.proofs.Pairs.{meaning_comm, pair, either_comm}
use Rattle.bytejournal.proofs.Appending.{contents_are, nothing_happens}
use Rattle.bytejournal.proofs.Lasting.{Stays, StageStays, IsStageKept, Callable, seen_journal, after_moments, no_moments, untouched, reopened, opened_again, all_kept}

-- ---- images

pub some_is : {A : Type 0} (x y : Option A) → x ≡ y → IsSome y → IsSome x
some_is x y e some = subst IsSome (sym e) some

pub some_map : {A B : Type 0} (f : A → B) (x : Option A) → IsSome x → IsSome (option_map f x)
some_map f None some = absurd cc
some_map f (Some x) some = refl

-- two images that mean the one or the other are a journal's
either_is_journal : (Known : Contents → Type 0) (before after : Option Contents) (x y : List ℕ) → IsSome before → IsSome after
    → IsEither Known before after x y → IsJournal x y
either_is_journal Known before after x y some some' is = record {
  some = ⊎_elim (λ b. some_is (meaning x y) before b some) (λ a. some_is (meaning x y) after a some') is.means;
  first_whole = is.first_whole;
  second_whole = is.second_whole;
}

pub none_is_not_some : {A : Type 0} (x : Option A) → x ≡ None → IsSome x → ⊥
none_is_not_some None none some = cc
none_is_not_some (Some x) none some = cc

-- no journal is none
not_none : (first second : List ℕ) → IsJournal first second → meaning first second ≡ None → ⊥
not_none first second is none = none_is_not_some (meaning first second) none is.some

not_both : (b : Bool) → b ≡ true → b ≡ false → ⊥
not_both b t f = cc

module _ {D : Type 0} (state : D → State) where
  -- ---- what the calls do

  -- a spent journal stays as it is
  spent_append : (old : Journal D) (entry : List ℕ) (result : Result (Unit {0}) (Failure JournalFault)) (new : Journal D)
      → Appends state old entry result new → old.spent ≡ true → new ≡ old
  spent_append old entry (Ok u) new r spent = absurd (not_both old.spent spent r.0)
  spent_append old entry (Err (Refused DiskFault)) new r spent = absurd (not_both old.spent spent r.0)
  spent_append old entry (Err (Refused NotAJournal)) new r spent = absurd r
  spent_append old entry (Err (Refused Spent)) new r spent = r.1
  spent_append old entry (Err (Refused GenerationsSpent)) new r spent = absurd r
  spent_append old entry (Err NoMemory) new r spent = absurd (not_both old.spent spent r.0)

  spent_rebase : (old : Journal D) (layout : ℕ) (base : List ℕ) (result : Result (Unit {0}) (Failure JournalFault)) (new : Journal D)
      → Rebases state old layout base result new → old.spent ≡ true → new ≡ old
  spent_rebase old layout base (Ok u) new r spent = absurd (not_both old.spent spent r.0)
  spent_rebase old layout base (Err (Refused DiskFault)) new r spent = absurd (not_both old.spent spent r.0)
  spent_rebase old layout base (Err (Refused NotAJournal)) new r spent = absurd r
  spent_rebase old layout base (Err (Refused Spent)) new r spent = r.1
  spent_rebase old layout base (Err (Refused GenerationsSpent)) new r spent = absurd (not_both old.spent spent r.0)
  spent_rebase old layout base (Err NoMemory) new r spent = absurd (not_both old.spent spent r.0)

  -- ---- moments

  -- what the journal means, whichever of its disks is active
  contents_in_order : (swapped : Bool) (active idle : D)
      → IsSome (meaning (state (if swapped then idle else active)).seen (state (if swapped then active else idle)).seen)
      → IsSome (meaning (state active).seen (state idle).seen)
  contents_in_order false active idle some = some
  contents_in_order true active idle some =
      some_is (meaning (state active).seen (state idle).seen) _ (meaning_comm (state active).seen (state idle).seen) some

  some_contents : (journal : Journal D) → IsRecoverable state IsJournal (first_disk journal) (second_disk journal) → IsSome (contents_of state journal)
  some_contents journal is =
      contents_in_order journal.swapped journal.active journal.idle
      (seen_journal state IsJournal (first_disk journal) (second_disk journal) is).some

  -- a call of a journal: what a crash leaves means its contents, or others
  called : (old new : Journal D) (f : Contents → Contents) → IsRecoverable state IsJournal (first_disk old) (second_disk old)
      → (old.spent ≡ true → new ≡ old)
      → (old.spent ≡ false → EachMoment (state (first_disk old)) (state (second_disk old)) (state (first_disk new)) (state (second_disk new))
      (IsEither (HoldsOne state old) (contents_of state old) (option_map f (contents_of state old))))
      → Stays state IsJournal (first_disk old) (second_disk old) (first_disk new) (second_disk new)
  called old new f is stuck moments = by_spent old.spent refl
    where
      some : IsSome (contents_of state old)
      some = some_contents old is

      by_spent : (b : Bool) → old.spent ≡ b → Stays state IsJournal (first_disk old) (second_disk old) (first_disk new) (second_disk new)
      by_spent true spent = subst (λ (j : Journal D). Stays state IsJournal (first_disk old) (second_disk old) (first_disk j) (second_disk j))
          (sym (stuck spent)) (no_moments state IsJournal (first_disk old) (second_disk old) is)
      by_spent false going =
          let m = moments going in
          record {
            first_later = m.first_later;
            second_later = m.second_later;
            each = λ x y left right. either_is_journal (HoldsOne state old) (contents_of state old) (option_map f (contents_of state old)) x y some
                (some_map f (contents_of state old) some) (m.each x y left right);
          }

  -- ---- opening

  pub opened_is_found : (first second : D) (result : Result (Opened D) (Returned D)) → IsRecoverable state IsJournal first second
      → Opens state first second result → FindsJournal result
  opened_is_found first second (Ok opened) is o =
      let here = seen_journal state IsJournal first second is in
      o.0.whole here.first_whole here.second_whole
  opened_is_found first second (Err handed) is o = λ e.
      not_none (state first).seen (state second).seen (seen_journal state IsJournal first second is)
      (subst (λ (f : Failure JournalFault). Refuses state first second f handed.disks.first handed.disks.second) e o.0)

  pub restarted_is_found : (journal : Journal D) (result : Result (Opened D) (Returned D))
      → IsRecoverable state IsJournal (first_disk journal) (second_disk journal) → Restarts state journal result → FindsJournal result
  restarted_is_found journal result is r = opened_is_found r.0 r.1 result
      (after_moments state IsJournal (first_disk journal) (second_disk journal) r.0 r.1
      (reopened state IsJournal (first_disk journal) (second_disk journal) r.0 r.1 is r.2 r.3)) r.4

  -- ---- stages

  after_open : (first second : D) (result : Result (Opened D) (Returned D)) → Opens state first second result
      → Untouched (state first) (state (first_of (after_opening result))) × Untouched (state second) (state (second_of (after_opening result)))
  after_open first second (Ok opened) o = (o.1, o.2)
  after_open first second (Err handed) o = (o.1, o.2)

  opened_callable : (first second : D) (result : Result (Opened D) (Returned D)) → IsRecoverable state IsJournal first second
      → Opens state first second result → Callable (IsSound state) (after_opening result)
  opened_callable first second (Ok opened) is o = λ going. o.0.at_rest (opened_is_found first second (Ok opened) is o)
  opened_callable first second (Err handed) is o = tt

  -- at each moment of a call
  call_stays : {old new : Stage D} → Calls state old new → IsStageKept state IsJournal old → StageStays state IsJournal old new
  call_stays (append {old} {new} entry result is) kept =
      called old new (added entry) kept (spent_append old entry result new is.row) is.any_moment
  call_stays (rebase {old} {new} layout base result is) kept =
      called old new (rebased layout base) kept (spent_rebase old layout base result new is.row) is.any_moment
  call_stays (restart {journal} result r) kept =
      let u = after_open r.0 r.1 result r.4 in
      opened_again state IsJournal (first_disk journal) (second_disk journal) r.0 r.1 (first_of (after_opening result))
      (second_of (after_opening result)) kept r.2 r.3 u.0 u.1
  call_stays (into_disks {journal}) kept = no_moments state IsJournal (first_disk journal) (second_disk journal) kept
  call_stays (reopen {first} {second} {first'} {second'} a b) kept = reopened state IsJournal first second first' second' kept a b
  call_stays (opening {first} {second} result settled settled' o) kept =
      let u = after_open first second result o in
      untouched state IsJournal first second (first_of (after_opening result)) (second_of (after_opening result)) kept u.0 u.1

  call_callable : {old new : Stage D} → Calls state old new → IsStageKept state IsJournal old → Callable (IsSound state) new
  call_callable (append entry result is) kept = is.sound
  call_callable (rebase layout base result is) kept = is.sound
  call_callable (restart {journal} result r) kept = opened_callable r.0 r.1 result
      (after_moments state IsJournal (first_disk journal) (second_disk journal) r.0 r.1
      (reopened state IsJournal (first_disk journal) (second_disk journal) r.0 r.1 kept r.2 r.3)) r.4
  call_callable into_disks kept = tt
  call_callable (reopen a b) kept = tt
  call_callable (opening {first} {second} result settled settled' o) kept = opened_callable first second result kept o

  -- a new journal
  created_is_kept : (first second : D) (layout : ℕ) (base : List ℕ) (journal : Journal D) → Creates state first second layout base (Ok journal)
      → IsIntact state (IsSound state) IsJournal (InProgram journal)
  created_is_kept first second layout base journal c =
      let rest = c.1 in
      let after = contents_of state journal in
      let some = some_is (contents_of state journal) (Some rest.contents) (contents_are state journal rest) refl in
      let moments = pair state journal.swapped journal.active journal.idle journal.active journal.idle (IsEither (HoldsOne state journal) after after)
      (either_comm (HoldsOne state journal) after after) (nothing_happens state journal rest after) in (
        λ going. rest,
        after_moments state IsJournal (first_disk journal) (second_disk journal) (first_disk journal) (second_disk journal)
            (record {
              first_later = moments.first_later;
              second_later = moments.second_later;
              each = λ x y left right. either_is_journal (HoldsOne state journal) after after x y some some (moments.each x y left right);
            }),
      )

  pub lives_kept : (first second : D) (layout : ℕ) (base : List ℕ) (journal : Journal D) (last : Stage D) → Creates state first second layout base (Ok journal)
      → Lives state (Calls state) (InProgram journal) last → IsIntact state (IsSound state) IsJournal last
  lives_kept first second layout base journal last created lives =
      all_kept state IsJournal (IsSound state) (Calls state) (λ old new call kept. call_stays call kept)
      (λ old new call kept. call_callable call kept) lives
      (created_is_kept first second layout base journal created)
