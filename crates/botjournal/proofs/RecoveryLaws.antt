-- A bot's journal over many calls and crashes.
use Rattle.std.proofs.Common.{◌≡◌, ⊎_elim, Bool, true, false, ℕ, Option, List, Result, Ok, Err, refl, sym, subst}
use Rattle.std.specs.Prelude.{IsSome, option_map}
use Rattle.bytetext.specs.declared.failure.Failure.{Failure}
use Rattle.bytetext.specs.declared.failure.Failure.TheVariants.{Refused, NoMemory}
use Rattle.disks.specs.State.{State}
use Rattle.bytejournal.specs.declared.fault.JournalFault.{JournalFault}
use Rattle.bytejournal.specs.declared.fault.JournalFault.TheVariants.{DiskFault, NotAJournal, Spent, GenerationsSpent}
use Rattle.bytejournal.specs.declared.journal.Journal.{Journal as OfTexts}
use Rattle.bytejournal.specs.declared.opening.Returned.{Returned}
use Rattle.bytejournal.specs.Journal.{HoldsOne, AnyMoment, first_disk, second_disk, contents_of as texts_of}
use Rattle.bytejournal.specs.Opening.{Untouched}
use Rattle.bytejournal.specs.Recovery.{Stage, first_of, second_of, Lives, IsRecoverable, IsIntact}
use Rattle.bytejournal.specs.Recovery.Stage.{InProgram}
use Rattle.bytejournal.proofs.Pairs.{either_comm, pair}
use Rattle.bytejournal.proofs.Appending.{nothing_happens}
use Rattle.bytejournal.proofs.Lasting.{Stays, StageStays, IsStageKept, Callable, seen_journal, after_moments, no_moments, untouched, reopened, opened_again, all_kept}
use Rattle.bytejournal.proofs.Recovering.{some_is, some_map, none_is_not_some}
use Rattle.botjournal.specs.declared.base.Base.{Base}
use Rattle.botjournal.specs.declared.entry.Entry.{Entry}
use Rattle.botjournal.specs.declared.opening.OpenedJournal.{OpenedJournal}
use Rattle.botjournal.specs.Contents.{Contents, meaning, added, rebased}
use Rattle.botjournal.specs.Journal.{IsEither, IsSound, Appends, Rebases, Creates, Refuses, Opens, Restarts, contents_of}
use Rattle.botjournal.specs.Recovery.{IsJournal, FindsJournal, after_opening, Calls}
use Rattle.botjournal.specs.Recovery.Calls.{append, rebase, restart, into_disks, reopen, opening}
use Rattle.botjournal.proofs.MeaningLaws.{contents_in_order, texts_are, typed_moments}
use Rattle.botjournal.proofs.JournalLaws.{not_both}

-- ---- images

-- two images that mean the one or the other are a journal's
either_is_journal : (before after : Option Contents) (x y : List ℕ) → IsSome before → IsSome after → IsEither before after x y → IsJournal x y
either_is_journal before after x y some some' is = record {
  some = ⊎_elim (λ b. some_is (meaning x y) before b some) (λ a. some_is (meaning x y) after a some') is.means;
  first_whole = is.first_whole;
  second_whole = is.second_whole;
}

module _ {D : Type 0} (state : D → State) where
  -- ---- spent journals stay as they are

  spent_append : (old : OfTexts D) (entry : Entry) (result : Result (Unit {0}) (Failure JournalFault)) (new : OfTexts D)
      → Appends state old entry result new → old.spent ≡ true → new ≡ old
  spent_append old entry (Ok u) new r spent = absurd (not_both old.spent r.0 spent)
  spent_append old entry (Err (Refused DiskFault)) new r spent = absurd (not_both old.spent r.0 spent)
  spent_append old entry (Err (Refused NotAJournal)) new r spent = absurd r
  spent_append old entry (Err (Refused Spent)) new r spent = r.1
  spent_append old entry (Err (Refused GenerationsSpent)) new r spent = absurd r
  spent_append old entry (Err NoMemory) new r spent = absurd (not_both old.spent r.0 spent)

  spent_rebase : (old : OfTexts D) (base : Base) (result : Result (Unit {0}) (Failure JournalFault)) (new : OfTexts D)
      → Rebases state old base result new → old.spent ≡ true → new ≡ old
  spent_rebase old base (Ok u) new r spent = absurd (not_both old.spent r.0 spent)
  spent_rebase old base (Err (Refused DiskFault)) new r spent = absurd (not_both old.spent r.0 spent)
  spent_rebase old base (Err (Refused NotAJournal)) new r spent = absurd r
  spent_rebase old base (Err (Refused Spent)) new r spent = r.1
  spent_rebase old base (Err (Refused GenerationsSpent)) new r spent = absurd (not_both old.spent r.0 spent)
  spent_rebase old base (Err NoMemory) new r spent = absurd (not_both old.spent r.0 spent)

module _ {D : Type 0} (state : D → State) where
  -- ---- calls

  -- a call of a journal: what a crash leaves means its contents, or others
  called : (old new : OfTexts D) (f : Contents → Contents) → IsRecoverable state IsJournal (first_disk old) (second_disk old)
      → (old.spent ≡ true → new ≡ old)
      → (old.spent ≡ false → AnyMoment state old new (IsEither (contents_of state old) (option_map f (contents_of state old))))
      → Stays state IsJournal (first_disk old) (second_disk old) (first_disk new) (second_disk new)
  called old new f is stuck moments = by_spent old.spent refl
    where
      some : IsSome (contents_of state old)
      some = some_is (contents_of state old) (meaning (state (first_disk old)).seen (state (second_disk old)).seen) (contents_in_order state old)
          (seen_journal state IsJournal (first_disk old) (second_disk old) is).some

      by_spent : (b : Bool) → old.spent ≡ b → Stays state IsJournal (first_disk old) (second_disk old) (first_disk new) (second_disk new)
      by_spent true spent = subst (λ (j : OfTexts D). Stays state IsJournal (first_disk old) (second_disk old) (first_disk j) (second_disk j))
          (sym (stuck spent)) (no_moments state IsJournal (first_disk old) (second_disk old) is)
      by_spent false going =
          let m = moments going in
          record {
            first_later = m.first_later;
            second_later = m.second_later;
            each = λ x y left right. either_is_journal (contents_of state old) (option_map f (contents_of state old)) x y some
                (some_map f (contents_of state old) some) (m.each x y left right);
          }

  -- ---- opening

  pub opened_is_found : (first second : D) (result : Result (OpenedJournal D) (Returned D)) → IsRecoverable state IsJournal first second
      → Opens state first second result → FindsJournal result
  opened_is_found first second (Ok opened) is o =
      let here = seen_journal state IsJournal first second is in
      o.0.whole here.first_whole here.second_whole
  opened_is_found first second (Err handed) is o = λ e.
      none_is_not_some (meaning (state first).seen (state second).seen)
      (subst (λ (f : Failure JournalFault). Refuses state first second f handed.disks.first handed.disks.second) e o.0)
      (seen_journal state IsJournal first second is).some

  pub restarted_is_found : (journal : OfTexts D) (result : Result (OpenedJournal D) (Returned D))
      → IsRecoverable state IsJournal (first_disk journal) (second_disk journal) → Restarts state journal result → FindsJournal result
  restarted_is_found journal result is r = opened_is_found r.0 r.1 result
      (after_moments state IsJournal (first_disk journal) (second_disk journal) r.0 r.1
      (reopened state IsJournal (first_disk journal) (second_disk journal) r.0 r.1 is r.2 r.3)) r.4

  after_open : (first second : D) (result : Result (OpenedJournal D) (Returned D)) → Opens state first second result
      → Untouched (state first) (state (first_of (after_opening result))) × Untouched (state second) (state (second_of (after_opening result)))
  after_open first second (Ok opened) o = (o.1, o.2)
  after_open first second (Err handed) o = (o.1, o.2)

  opened_callable : (first second : D) (result : Result (OpenedJournal D) (Returned D)) → IsRecoverable state IsJournal first second
      → Opens state first second result → Callable (IsSound state) (after_opening result)
  opened_callable first second (Ok opened) is o = λ going. o.0.at_rest (opened_is_found first second (Ok opened) is o)
  opened_callable first second (Err handed) is o = tt

  -- ---- stages

  -- at each moment of a call
  call_stays : {old new : Stage D} → Calls state old new → IsStageKept state IsJournal old → StageStays state IsJournal old new
  call_stays (append {old} {new} entry result is) kept =
      called old new (added entry) kept (spent_append state old entry result new is.row) is.any_moment
  call_stays (rebase {old} {new} base result is) kept =
      called old new (rebased base) kept (spent_rebase state old base result new is.row) is.any_moment
  call_stays (restart {journal} result r) kept =
      let u = after_open r.0 r.1 result r.4 in
      opened_again state IsJournal (first_disk journal) (second_disk journal) r.0 r.1 (first_of (after_opening result))
      (second_of (after_opening result)) kept r.2 r.3 u.0 u.1
  call_stays (into_disks {journal}) kept = no_moments state IsJournal (first_disk journal) (second_disk journal) kept
  call_stays (reopen {first} {second} {first'} {second'} a b) kept = reopened state IsJournal first second first' second' kept a b
  call_stays (opening {first} {second} result settled settled' o) kept =
      let u = after_open first second result o in
      untouched state IsJournal first second (first_of (after_opening result)) (second_of (after_opening result)) kept u.0 u.1

  call_callable : {old new : Stage D} → Calls state old new → IsStageKept state IsJournal old → Callable (IsSound state) new
  call_callable (append entry result is) kept = is.sound
  call_callable (rebase base result is) kept = is.sound
  call_callable (restart {journal} result r) kept = opened_callable r.0 r.1 result
      (after_moments state IsJournal (first_disk journal) (second_disk journal) r.0 r.1
      (reopened state IsJournal (first_disk journal) (second_disk journal) r.0 r.1 kept r.2 r.3)) r.4
  call_callable into_disks kept = tt
  call_callable (reopen a b) kept = tt
  call_callable (opening {first} {second} result settled settled' o) kept = opened_callable first second result kept o

  -- a new journal
  created_is_kept : (first second : D) (base : Base) (journal : OfTexts D) → Creates state first second base (Ok journal)
      → IsIntact state (IsSound state) IsJournal (InProgram journal)
  created_is_kept first second base journal c =
      let rest = c.1 in
      let texts = texts_of state journal in
      let after = contents_of state journal in
      let moments = typed_moments state journal journal texts after rest.some rest.some (sym (texts_are state journal rest.some))
      (pair state journal.swapped _ _ _ _ _ (either_comm (HoldsOne state journal) texts texts)
      (nothing_happens state journal rest.texts texts)) in (
        λ going. rest,
        after_moments state IsJournal (first_disk journal) (second_disk journal) (first_disk journal) (second_disk journal)
            (record {
              first_later = moments.first_later;
              second_later = moments.second_later;
              each = λ x y left right. either_is_journal after after x y rest.some rest.some (moments.each x y left right);
            }),
      )

  pub lives_kept : (first second : D) (base : Base) (journal : OfTexts D) (last : Stage D) → Creates state first second base (Ok journal)
      → Lives state (Calls state) (InProgram journal) last → IsIntact state (IsSound state) IsJournal last
  lives_kept first second base journal last created lives =
      all_kept state IsJournal (IsSound state) (Calls state) (λ old new call kept. call_stays call kept)
      (λ old new call kept. call_callable call kept) lives
      (created_is_kept first second base journal created)
