-- What a crash leaves while an end is opened: its journal has the present layout, or an older one and is rewritten.
use Rattle.std.proofs.Common.{◌≡◌, ◌≢◌, ◌⊎◌, ◌≤◌, ℕ, List, Option, Some, Result, Ok, Err, length, refl, sym, ap, subst, ◌∙◌, ⊎_elim, inl, inr, arith}
use Rattle.bytetext.specs.declared.failure.Failure.{Failure}
use Rattle.bytetext.specs.declared.failure.Failure.TheVariants.{Refused, NoMemory}
use Rattle.disks.specs.Events.{Event, LeftSince}
use Rattle.disks.specs.State.{State, IsSettled, Rose, moment, left_since}
use Rattle.disks.specs.Laws.{counts_now, only_now}
use Rattle.bytejournal.specs.declared.fault.JournalFault.{JournalFault}
use Rattle.bytejournal.specs.declared.fault.JournalFault.TheVariants.{DiskFault, NotAJournal, Spent, GenerationsSpent}
use Rattle.botjournal.specs.declared.TheConstants.{LAYOUT}
use Rattle.botjournal.specs.Contents.{Contents, meaning}
use Rattle.botjournal.specs.Journal.{IsEither}
use Rattle.botjournal.specs.Ledger.{Account, Device, Ledger, Pending, AtEachMoment, AreStill, NoFewer, Leaves, Refuses, settled, written, counted as contents_counted, device_on}
use Rattle.bytejournal.specs.declared.opening.Returned.{Returned}
use Rattle.bytejournal.specs.Opening.{Untouched}
use Rattle.sharelink.specs.Kept.{Kept, LeavesWritten, Renews}
use Rattle.sharelink.specs.StateOpening.{AreWhole, IsLeftOf, KeepsGates, MeanTheSame, LeavesFound, FindsNone, Finds, FindsAtEachMoment, at_rest, device_after}
use Rattle.sharelink.specs.Anew.{IsHeldOr, CannotPut, PutsAnew, PutsAnewAtEachMoment}
use Rattle.sharelink.proofs.FoundLaws.{certain-counted}

-- ---- moments

-- of a disk to which nothing happened a crash leaves what it left before
same-left : (old now : State) (x : List ℕ) → now.seen ≡ old.seen → now.events ≡ old.events → left_since now (moment old) x
    → left_since old (moment old) x
same-left old now x seen events left =
    subst (λ (past : List Event). LeftSince past old.seen (moment old) x) events
    (subst (λ (s : List ℕ). LeftSince now.events s (moment old) x) seen left)

settled-left : (old now : State) (x : List ℕ) → IsSettled old → now.seen ≡ old.seen → now.events ≡ old.events
    → left_since now (moment old) x → x ≡ old.seen
settled-left old now x is seen events left = is x (only_now old x (same-left old now x seen events left))

not-earlier : (old now : State) → now.events ≡ old.events → moment old ≤ moment now
not-earlier old now events = subst (λ (past : List Event). moment old ≤ length past) (sym events) (omega arith)

-- nothing happened to the disks that were given
pub still-moments : (first second : State) (device : Device) (P : List ℕ → List ℕ → Type 0) → IsSettled first → IsSettled second
    → AreStill first second device → P first.seen second.seen → AtEachMoment (device_on first second) device P
still-moments first second device P a b still p = record {
  first_later = not-earlier first device.first still.1;
  second_later = not-earlier second device.second still.3;
  each = λ x y left right.
      subst (λ (u : List ℕ). P u y) (sym (settled-left first device.first x a still.0 still.1 left))
      (subst (λ (v : List ℕ). P first.seen v) (sym (settled-left second device.second y b still.2 still.3 right)) p);
}

-- what is left since the disks were found, of disks to which nothing had happened before
moved-moments : (first second : State) (device now : Device) (P Q : List ℕ → List ℕ → Type 0) → AreStill first second device
    → ((x y : List ℕ) → P x y → Q x y) → AtEachMoment device now P → AtEachMoment (device_on first second) now Q
moved-moments first second device now P Q still goes m = record {
  first_later = subst (λ (past : List Event). length past ≤ moment now.first) still.1 m.first_later;
  second_later = subst (λ (past : List Event). length past ≤ moment now.second) still.3 m.second_later;
  each = λ x y left right. goes x y (m.each x y
      (subst (λ (past : List Event). left_since now.first (length past) x) (sym still.1) left)
      (subst (λ (past : List Event). left_since now.second (length past) y) (sym still.3) right));
}

-- a number that rose since a moment rose since an earlier one, up to which it hadn't fallen
rose-since : (before then now : ℕ) → before ≤ then → Rose then now → Rose before now
rose-since before then now le (inl more) = inl (omega (arith, le, more))
rose-since before then now le (inr last) = inr last

-- ---- while the state is put into the journal

module _ (may : Type 0) (pending : Pending) where
  -- before anything is written
  pub still-held : (ledger : Ledger) → ledger.account ≡ settled ledger.account.contents
      → Leaves ledger.device.first ledger.device.second ledger.account
      → AtEachMoment ledger.device ledger.device (IsHeldOr may pending ledger.account.contents)
  still-held ledger rests leaves = record {
    first_later = omega arith;
    second_later = omega arith;
    each = λ x y left right.
        held x y (leaves x y (only_now ledger.device.first x left) (only_now ledger.device.second y right));
  }
    where
      by : (x y : List ℕ) → (meaning x y ≡ Some ledger.account.contents) ⊎ (meaning x y ≡ Some (contents_counted ledger.account))
          → (meaning x y ≡ Some ledger.account.contents) ⊎ (may × (meaning x y ≡ Some (written pending ledger.account.contents)))
      by x y (inl e) = inl e
      by x y (inr e) = inl (e ∙ ap (λ c. Some c) (certain-counted ledger.account (ap (λ (a : Account). a.doubt) rests)))

      held : (x y : List ℕ) → IsEither (Some ledger.account.contents) (Some (contents_counted ledger.account)) x y
          → IsHeldOr may pending ledger.account.contents x y
      held x y is = record { means = by x y is.means; first_whole = is.first_whole; second_whole = is.second_whole }

  -- while it is written, or memory is asked for before that
  pub held-moments : (old new : Ledger) → may → old.account ≡ settled old.account.contents
      → Leaves old.device.first old.device.second old.account → LeavesWritten pending old new
      → AtEachMoment old.device new.device (IsHeldOr may pending old.account.contents)
  held-moments old new m rests leaves (inl same) =
      subst (λ (l : Ledger). AtEachMoment old.device l.device (IsHeldOr may pending old.account.contents)) (sym same)
      (still-held old rests leaves)
  held-moments old new m rests leaves (inr moments) = record {
    first_later = moments.first_later;
    second_later = moments.second_later;
    each = λ x y left right. held x y (moments.each x y left right);
  }
    where
      by : (x y : List ℕ) → (meaning x y ≡ Some old.account.contents) ⊎ (meaning x y ≡ Some (written pending old.account.contents))
          → (meaning x y ≡ Some old.account.contents) ⊎ (may × (meaning x y ≡ Some (written pending old.account.contents)))
      by x y (inl e) = inl e
      by x y (inr e) = inr (m, e)

      held : (x y : List ℕ) → IsEither (Some old.account.contents) (Some (written pending old.account.contents)) x y
          → IsHeldOr may pending old.account.contents x y
      held x y is = record { means = by x y is.means; first_whole = is.first_whole; second_whole = is.second_whole }

-- ---- the gates while an end is found

module _ {D : Type 0} (disk : D → State) (first second : D) where
  -- disks to which nothing happened
  pub gates-still : (device : Device) → IsSettled (disk first) → IsSettled (disk second) → AreStill (disk first) (disk second) device
      → KeepsGates disk first second device
  gates-still device a b still whole = still-moments (disk first) (disk second) device AreWhole a b still whole

  -- an older journal that is rewritten
  pub gates-put : {V : Type 0} (may : Type 0) (pending : Pending) (device_in : V → Device) (ledger : Ledger)
      → AreStill (disk first) (disk second) ledger.device → (result : Result V (Returned D))
      → PutsAnewAtEachMoment disk may pending device_in ledger result → KeepsGates disk first second (device_after disk device_in result)
  gates-put may pending device_in ledger still (Ok end) m whole =
      moved-moments (disk first) (disk second) ledger.device (device_in end) (IsHeldOr may pending ledger.account.contents) AreWhole still
      (λ x y is. (is.first_whole, is.second_whole)) m
  gates-put may pending device_in ledger still (Err returned) m whole =
      moved-moments (disk first) (disk second) ledger.device (device_on (disk returned.disks.first) (disk returned.disks.second))
      (IsHeldOr may pending ledger.account.contents) AreWhole still (λ x y is. (is.first_whole, is.second_whole)) m

-- ---- while an end is found

module _ {D S : Type 0} (disk : D → State) (first second : D) (state_of : Contents → Option S) where
  -- what a crash leaves at the last moment
  pub left-last : (Becomes : S → S → Type 0) (first' second' : D)
      → LeavesFound disk first second state_of Becomes (device_on (disk first') (disk second'))
      → MeanTheSame disk first second state_of Becomes first' second'
  left-last Becomes first' second' m x y left right =
      m.each x y (counts_now (disk first') (moment (disk first)) x m.first_later left)
      (counts_now (disk second') (moment (disk second)) y m.second_later right)

  -- disks to which nothing happened
  pub left-still : (Becomes : S → S → Type 0) (device : Device) → IsSettled (disk first) → IsSettled (disk second)
      → AreStill (disk first) (disk second) device → LeavesFound disk first second state_of Becomes device
  left-still Becomes device a b still =
      still-moments (disk first) (disk second) device
      (IsLeftOf state_of Becomes (meaning (disk first).seen (disk second).seen)) a b still (inl refl)

  -- disks that no journal was read from
  not-read : (Becomes : S → S → Type 0) (error : Failure JournalFault) (first' second' : D)
      → Refuses disk first second error first' second' → FindsNone disk first second state_of Becomes error first' second'
  not-read Becomes (Refused DiskFault) first' second' why = why
  not-read Becomes (Refused NotAJournal) first' second' why = inl why
  not-read Becomes (Refused Spent) first' second' why = why
  not-read Becomes (Refused GenerationsSpent) first' second' why = absurd why
  not-read Becomes NoMemory first' second' why = tt

  pub none-read : (Becomes : S → S → Type 0) (returned : Returned D)
      → Refuses disk first second returned.error returned.disks.first returned.disks.second
      → Untouched (disk first) (disk returned.disks.first) → Untouched (disk second) (disk returned.disks.second)
      → FindsNone disk first second state_of Becomes returned.error returned.disks.first returned.disks.second
      × MeanTheSame disk first second state_of Becomes returned.disks.first returned.disks.second
  none-read Becomes returned why u v = (
    not-read Becomes returned.error returned.disks.first returned.disks.second why,
    λ x y left right.
        inl (ap (λ (a : List ℕ). meaning a y) (u.settled x left ∙ u.seen)
        ∙ ap (λ (b : List ℕ). meaning (disk first).seen b) (v.settled y right ∙ v.seen)),
  )

  -- ---- an older journal that is rewritten

  module _ {R : Type 0} (who : ℕ) (may : S → R → Type 0) (folded : S → R → S) (renewal : R) (pending : Pending) (ledger : Ledger)
      (before : S) (found : meaning (disk first).seen (disk second).seen ≡ Some ledger.account.contents)
      (still : AreStill (disk first) (disk second) ledger.device)
      (fewer : NoFewer (disk first) (disk second) ledger.device) (older : ledger.account.contents.layout ≢ LAYOUT)
      (means : state_of ledger.account.contents ≡ Some before)
      (writes : may before renewal → state_of (written pending ledger.account.contents) ≡ Some (folded before renewal))
      (current : (written pending ledger.account.contents).layout ≡ LAYOUT) where
    abbrev Becomes : S → S → Type 0
    Becomes = Renews may folded renewal

    put-means : (x y : List ℕ)
        → (meaning x y ≡ Some ledger.account.contents) ⊎ (may before renewal × (meaning x y ≡ Some (written pending ledger.account.contents)))
        → IsLeftOf state_of Becomes (meaning (disk first).seen (disk second).seen) x y
    put-means x y (inl e) = inl (e ∙ sym found)
    put-means x y (inr put) = inr (record {
      contents = ledger.account.contents;
      was = found;
      older = older;
      before = before;
      means = means;
      kept = folded before renewal;
      renews = (put.0, refl);
      anew = written pending ledger.account.contents;
      found = put.1;
      current = current;
      means_anew = writes put.0;
    })

    put-left : (x y : List ℕ) → IsHeldOr (may before renewal) pending ledger.account.contents x y
        → IsLeftOf state_of Becomes (meaning (disk first).seen (disk second).seen) x y
    put-left x y is = put-means x y is.means

    put-moments : (now : Device) → AtEachMoment ledger.device now (IsHeldOr (may before renewal) pending ledger.account.contents)
        → LeavesFound disk first second state_of Becomes now
    put-moments now m =
        moved-moments (disk first) (disk second) ledger.device now
        (IsHeldOr (may before renewal) pending ledger.account.contents)
        (IsLeftOf state_of Becomes (meaning (disk first).seen (disk second).seen)) still put-left m

    pub put-at-each : (result : Result (Kept S R) (Returned D))
        → PutsAnewAtEachMoment disk (may before renewal) pending (λ (k : Kept S R). k.device) ledger result
        → FindsAtEachMoment disk first second (λ (k : Kept S R). k.device) state_of Becomes result
    put-at-each (Ok kept) m = put-moments kept.device m
    put-at-each (Err returned) m = put-moments (device_on (disk returned.disks.first) (disk returned.disks.second)) m

    not-put : (error : Failure JournalFault) (first' second' : D) → CannotPut ledger error (device_on (disk first') (disk second'))
        → FindsNone disk first second state_of Becomes error first' second'
    not-put (Refused DiskFault) first' second' why =
        ⊎_elim (λ a. inl (rose-since (disk first).failed ledger.device.first.failed (disk first').failed fewer.0 a))
        (λ b. inr (rose-since (disk second).failed ledger.device.second.failed (disk second').failed fewer.1 b)) why
    not-put (Refused NotAJournal) first' second' why = absurd why
    not-put (Refused Spent) first' second' why = why
    not-put (Refused GenerationsSpent) first' second' why = record {
      contents = ledger.account.contents;
      found = found;
      before = before;
      means = means;
      older = older;
      spent = why;
    }
    not-put NoMemory first' second' why = tt

    pub put-finds : (result : Result (Kept S R) (Returned D))
        → PutsAnew disk (may before renewal) (at_rest who (folded before renewal)) (λ (k : Kept S R). k.device) ledger result
        → PutsAnewAtEachMoment disk (may before renewal) pending (λ (k : Kept S R). k.device) ledger result
        → Finds disk first second (λ (k : Kept S R). k.device) (at_rest who) state_of Becomes (λ (k : Kept S R). k.state) result
    put-finds (Ok kept) put m = (
      record {
        contents = ledger.account.contents;
        found = found;
        before = before;
        means = means;
        keeps = inr (older, (put.0, ap (λ (k : Kept S R). k.state) put.1));
      },
      put.1 ∙ ap (λ s. at_rest who s kept.device) (sym (ap (λ (k : Kept S R). k.state) put.1)),
    )
    put-finds (Err returned) put m = (
      not-put returned.error returned.disks.first returned.disks.second put,
      left-last Becomes returned.disks.first returned.disks.second
          (put-moments (device_on (disk returned.disks.first) (disk returned.disks.second)) m),
    )
