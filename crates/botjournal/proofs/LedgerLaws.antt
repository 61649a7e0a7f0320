-- What a ledger's disks mean, between two calls and after each of them.
use Rattle.std.proofs.Common.{◌≡◌, ◌⊎◌, inl, inr, ⊎_elim, ℕ, Bool, true, false, Option, Some, None, List, Ok, Err, refl, sym, ap, subst, ◌∙◌, arith}
use Rattle.std.specs.Prelude.{IsSome, option_map}
use Rattle.bytetext.specs.declared.failure.Failure.{Failure}
use Rattle.bytetext.specs.declared.failure.Failure.TheVariants.{Refused, NoMemory}
use Rattle.disks.specs.declared.disk.DiskFault.{DiskFault}
use Rattle.disks.specs.Events.{openings}
use Rattle.disks.specs.State.{State, Rose, moment, may_leave, left_since}
use Rattle.disks.specs.Laws.{counts_now, only_now}
use Rattle.bytejournal.specs.declared.fault.JournalFault.{JournalFault}
use Rattle.bytejournal.specs.declared.fault.JournalFault.TheVariants.{DiskFault as DiskFailed, NotAJournal, Spent, GenerationsSpent}
use Rattle.bytejournal.specs.declared.journal.Journal.{Journal as OfTexts}
use Rattle.bytejournal.specs.declared.opening.Disks.{Disks}
use Rattle.bytejournal.specs.declared.opening.Returned.{Returned}
use Rattle.bytejournal.specs.Meaning.{Contents as Texts}
use Rattle.bytejournal.specs.Journal.{HoldsOne, AnyMoment, SameDisks, first_disk, second_disk, contents_of as texts_of}
use Rattle.bytejournal.specs.Opening.{Untouched, Reopened}
use Rattle.bytejournal.specs.Writing.{IsSame}
use Rattle.bytejournal.proofs.Pairs.{either_comm, pair}
use Rattle.bytejournal.proofs.Appending.{contents_are, nothing_happens}
use Rattle.botjournal.specs.declared.base.Base.{Base}
use Rattle.botjournal.specs.declared.entry.Entry.{Entry}
use Rattle.botjournal.specs.declared.opening.OpenedJournal.{OpenedJournal}
use Rattle.botjournal.specs.declared.store.Store.{Store}
use Rattle.botjournal.specs.declared.store.Store.TheVariants.{Open, Shut, InHand}
use Rattle.botjournal.specs.declared.sums.Seal.{Seal}
use Rattle.botjournal.specs.Contents.{Contents, meaning, body_in, seal_by, if_sealed, with_base, entries_in, spelled, spelled_by, typed}
use Rattle.botjournal.specs.declared.layouts.Layout.{Layout}
use Rattle.botjournal.specs.Layouts.{layout_of}
use Rattle.botjournal.specs.Bases.{base_in}
use Rattle.botjournal.specs.Journal.{IsAtRest, IsEither, Refuses, Opens, contents_of, contents_found}
use Rattle.botjournal.specs.Ledger.{Ledger, Account, Pending, Device, Failed, Reopens, AtEachMoment, AreStill, NoFewer, Leaves, Restarts, settled, written_if, counted, device_on, without_room}
use Rattle.botjournal.specs.Stores.{AreIn, IsGoing, Stands, OpensAgain, read_error, shown, device_of}
use Rattle.botjournal.proofs.MeaningLaws.{contents_in_order, texts_are, typed_moments}

-- ---- contents

pub shown_is : (o : Option Contents) (contents : Contents) → o ≡ Some contents → shown o ≡ contents
shown_is o contents is = ap shown is

pub some_shown : (o : Option Contents) (contents : Contents) → o ≡ Some contents → o ≡ Some (shown o)
some_shown o contents is = is ∙ ap Some (sym (shown_is o contents is))

some_is_shown : (o : Option Contents) → IsSome o → o ≡ Some (shown o)
some_is_shown None some = absurd cc
some_is_shown (Some contents) some = refl

same_contents : (a b : Contents) → (let o : Option Contents = Some a in o) ≡ Some b → a ≡ b
same_contents a b e = ap shown e

-- what is read keeps the layout and the generation
abbrev IsOf : ℕ → ℕ → Contents → Type 0
IsOf number generation contents = (contents.layout ≡ number) × (contents.generation ≡ generation)

with_base_of : (number generation : ℕ) (base : Option Base) (entries : Option (List Entry)) (contents : Contents)
    → with_base number generation base entries ≡ Some contents → IsOf number generation contents
with_base_of number generation None entries contents is = absurd cc
with_base_of number generation (Some base) None contents is = absurd cc
with_base_of number generation (Some base) (Some entries) contents is = (sym (ap (λ o. (shown o).layout) is), sym (ap (λ o. (shown o).generation) is))

spelled_of : (layout : Option Layout) (texts : Texts) (contents : Contents) → spelled_by layout texts ≡ Some contents
    → IsOf texts.layout texts.generation contents
spelled_of None texts contents is = absurd cc
spelled_of (Some layout) texts contents is = by (seal_by layout texts) is
  where
    by : (seal : Option Seal) → if_sealed seal
        (with_base texts.layout texts.generation (base_in layout (body_in layout texts.base)) (entries_in layout texts.entries)) ≡ Some contents
        → IsOf texts.layout texts.generation contents
    by None is = absurd cc
    by (Some seal) is =
        with_base_of texts.layout texts.generation (base_in layout (body_in layout texts.base)) (entries_in layout texts.entries) contents is

-- images of two disks that mean what they meant
either_moved : (before before' after after' : Option Contents) (x y : List ℕ) → before ≡ before' → after ≡ after' → IsEither before after x y
    → IsEither before' after' x y
either_moved before before' after after' x y b a is = record {
  means = ⊎_elim (λ m. inl (m ∙ b)) (λ m. inr (m ∙ a)) is.means;
  first_whole = is.first_whole;
  second_whole = is.second_whole;
}

module _ {D : Type 0} (state : D → State) where
  -- ---- a ledger that is up

  open_is : (j journal : OfTexts D) → (let s : Store D = Open j in s) ≡ Open journal → j ≡ journal
  open_is j journal e = cc

  pub going_of : (down : Bool) (store : Store D) (account : Account) (journal : OfTexts D) → Stands state down store account → down ≡ false
      → store ≡ Open journal → IsGoing state journal account
  going_of false (Open j) account journal s d e = subst (λ (k : OfTexts D). IsGoing state k account) (open_is j journal e) s
  going_of false (Shut disks) account journal s d e = absurd s
  going_of false InHand account journal s d e = absurd s
  going_of true store account journal s d e = absurd cc

  going_is_of : (journal : OfTexts D) (account : Account) → IsGoing state journal account → IsOf journal.layout journal.generation account.contents
  going_is_of journal account is =
      let texts = is.rest.texts in
      let read : spelled texts.contents ≡ Some account.contents =
      ap typed (sym (contents_are state journal texts)) ∙ sym (texts_are state journal is.rest.some) ∙ is.contents in
      let of = spelled_of (layout_of texts.contents.layout) texts.contents account.contents read in
      (of.0 ∙ sym texts.layout, of.1 ∙ sym texts.generation)

  pub layout_is : (journal : OfTexts D) (account : Account) → IsGoing state journal account → account.contents.layout ≡ journal.layout
  layout_is journal account is = (going_is_of journal account is).0

  pub generation_is : (journal : OfTexts D) (account : Account) → IsGoing state journal account → account.contents.generation ≡ journal.generation
  generation_is journal account is = (going_is_of journal account is).1

module _ {D : Type 0} (state : D → State) where
  -- ---- what a crash leaves

  -- what any moment since some earlier one leaves, this one leaves
  left_now : (old new : OfTexts D) (before after : Option Contents) → AnyMoment state old new (IsEither before after) → (x y : List ℕ)
      → may_leave (state (first_disk new)) x → may_leave (state (second_disk new)) y → IsEither before after x y
  left_now old new before after m x y left right =
      m.each x y (counts_now (state (first_disk new)) (moment (state (first_disk old))) x m.first_later left)
      (counts_now (state (second_disk new)) (moment (state (second_disk old))) y m.second_later right)

  -- a journal that takes calls
  going_leaves : (journal : OfTexts D) (account : Account) → IsGoing state journal account
      → Leaves (state (first_disk journal)) (state (second_disk journal)) account
  going_leaves journal account is x y left right =
      let rest = is.rest in
      let texts = texts_of state journal in
      let here = contents_of state journal in
      let moments = typed_moments state journal journal texts here rest.some rest.some (sym (texts_are state journal rest.some))
      (pair state journal.swapped _ _ _ _ _ (either_comm (HoldsOne state journal) texts texts)
      (nothing_happens state journal rest.texts texts)) in
      either_moved here (Some account.contents) here (Some (counted account)) x y is.contents
      (is.contents ∙ ap (λ d. Some (written_if d account.contents)) (sym is.doubt)) (left_now journal journal here here moments x y left right)

  -- after a call in which a disk failed
  pub fault_leaves : (old new : OfTexts D) (account : Account) (f : Contents → Contents) → IsGoing state old account
      → AnyMoment state old new (IsEither (contents_of state old) (option_map f (contents_of state old))) → (x y : List ℕ)
      → may_leave (state (first_disk new)) x → may_leave (state (second_disk new)) y → IsEither (Some account.contents) (Some (f account.contents)) x y
  fault_leaves old new account f is m x y left right =
      let here = contents_of state old in
      either_moved here (Some account.contents) (option_map f here) (Some (f account.contents)) x y is.contents (ap (option_map f) is.contents)
      (left_now old new here (option_map f here) m x y left right)

  disks_leave : (first second first' second' : D) (account : Account) → first' ≡ first → second' ≡ second → Leaves (state first) (state second) account
      → Leaves (state first') (state second') account
  disks_leave first second first' second' account a b l =
      subst (λ d. Leaves (state d) (state second') account) (sym a) (subst (λ d. Leaves (state first) (state d) account) (sym b) l)

  -- the disks of any ledger
  pub stand_leaves : (down : Bool) (store : Store D) (account : Account) (disks : Disks D) → Stands state down store account → AreIn store disks
      → Leaves (state disks.first) (state disks.second) account
  stand_leaves false (Open journal) account disks s i =
      disks_leave (first_disk journal) (second_disk journal) disks.first disks.second account i.0 i.1 (going_leaves journal account s)
  stand_leaves false (Shut held) account disks s i = absurd s
  stand_leaves false InHand account disks s i = absurd s
  stand_leaves true (Open journal) account disks s i =
      disks_leave (first_disk journal) (second_disk journal) disks.first disks.second account i.0 i.1 s
  stand_leaves true (Shut held) account disks s i = disks_leave held.first held.second disks.first disks.second account i.0 i.1 s
  stand_leaves true InHand account disks s i = absurd s

module _ {D : Type 0} (state : D → State) where
  -- ---- a journal that takes calls

  pub rest_goes : (journal : OfTexts D) → journal.spent ≡ false → IsAtRest state journal
      → IsGoing state journal (record { contents = shown (contents_of state journal); doubt = None; down = false })
  rest_goes journal going rest =
      record { going = going; rest = rest; contents = some_is_shown (contents_of state journal) rest.some; doubt = refl }

  -- ---- a journal that was opened again

  opened_contents : (first second : D) (opened : OpenedJournal D) → Opens state first second (Ok opened)
      → contents_of state opened.journal ≡ Some (contents_found state opened)
  opened_contents first second opened o =
      contents_in_order state opened.journal ∙ ap (λ x. meaning x (state (second_disk opened.journal)).seen) o.1.seen
      ∙ ap (λ y. meaning (state first).seen y) o.2.seen ∙ o.0.found

  pub opened_goes : (first second : D) (opened : OpenedJournal D) (doubt : Option Pending) → doubt ≡ None → opened.whole ≡ true
      → Opens state first second (Ok opened)
      → IsGoing state opened.journal (record { contents = shown (contents_of state opened.journal); doubt = doubt; down = false })
  opened_goes first second opened doubt none whole o = record {
    going = o.0.going;
    rest = o.0.at_rest whole;
    contents = some_shown (contents_of state opened.journal) (contents_found state opened) (opened_contents first second opened o);
    doubt = none;
  }

  pub opened_shows : (first second : D) (opened : OpenedJournal D) → Opens state first second (Ok opened)
      → shown (contents_of state opened.journal) ≡ contents_found state opened
  opened_shows first second opened o = shown_is (contents_of state opened.journal) (contents_found state opened) (opened_contents first second opened o)

  module _ (first second : D) (account : Account) (leaves : Leaves (state first) (state second) account) where
    -- what the disks mean when they are opened again
    again : (first' second' : D) → Reopened (state first) (state first') → Reopened (state second) (state second')
        → IsEither (Some account.contents) (Some (counted account)) (state first').seen (state second').seen
    again first' second' a b = leaves (state first').seen (state second').seen a.left b.left

    pub again_whole : (opened : OpenedJournal D) → OpensAgain state first second (Ok opened) → opened.whole ≡ true
    again_whole opened r =
        let here = again r.0 r.1 r.2 r.3 in
        r.4.0.whole here.first_whole here.second_whole

    again_found : (opened : OpenedJournal D) → OpensAgain state first second (Ok opened)
        → (contents_found state opened ≡ account.contents) ⊎ (contents_found state opened ≡ counted account)
    again_found opened r =
        ⊎_elim (λ b. inl (same_contents (contents_found state opened) account.contents (sym r.4.0.found ∙ b)))
        (λ a. inr (same_contents (contents_found state opened) (counted account) (sym r.4.0.found ∙ a))) (again r.0 r.1 r.2 r.3).means

    -- the row of a restart that opened a journal
    pub restart_finds : (opened : OpenedJournal D) → OpensAgain state first second (Ok opened)
        → (let contents = shown (contents_of state opened.journal) in ((settled contents ≡ settled account.contents) ⊎ (settled contents ≡ settled (counted account)))
        × ((opened.base ≡ contents.base) × (opened.entries ≡ contents.entries)))
    restart_finds opened r =
        let e : shown (contents_of state opened.journal) ≡ contents_found state opened = opened_shows r.0 r.1 opened r.4 in (
          ⊎_elim (λ b. inl (ap settled (e ∙ b))) (λ a. inr (ap settled (e ∙ a))) (again_found opened r),
          (sym (ap (λ (c : Contents). c.base) e), sym (ap (λ (c : Contents). c.entries) e)),
        )

    -- disks that could not be read
    untouched_leaves : (old new : D) → Untouched (state old) (state new) → (image : List ℕ) → may_leave (state new) image
        → image ≡ (state old).seen
    untouched_leaves old new u image left = u.any_moment.each image (counts_now (state new) (moment (state old)) image u.any_moment.later left)

    pub again_leaves : (returned : Returned D) → OpensAgain state first second (Err returned)
        → Leaves (state returned.disks.first) (state returned.disks.second) account
    again_leaves returned r x y left right =
        let a = untouched_leaves r.0 returned.disks.first r.4.1 x left in
        let b = untouched_leaves r.1 returned.disks.second r.4.2 y right in
        subst (λ (l : List ℕ). IsEither (Some account.contents) (Some (counted account)) l y) (sym a)
        (subst (λ (l : List ℕ). IsEither (Some account.contents) (Some (counted account)) (state r.0).seen l) (sym b) (again r.0 r.1 r.2 r.3))

    not_some : (o : Option Contents) (contents : Contents) → o ≡ None → o ≡ Some contents → ⊥
    not_some o contents n s = cc

    not_none : (first' second' : D) → Reopened (state first) (state first') → Reopened (state second) (state second')
        → meaning (state first').seen (state second').seen ≡ None → ⊥
    not_none first' second' a b none =
        ⊎_elim (λ m. not_some (meaning (state first').seen (state second').seen) account.contents none m)
        (λ m. not_some (meaning (state first').seen (state second').seen) (counted account) none m) (again first' second' a b).means

    -- a fault was one of the disks
    again_fails : (returned : Returned D) (fault : JournalFault) → returned.error ≡ Refused fault → OpensAgain state first second (Err returned)
        → Rose (state first).failed (state returned.disks.first).failed ⊎ Rose (state second).failed (state returned.disks.second).failed
    again_fails returned fault is r = by fault
        (subst (λ (f : Failure JournalFault). Refuses state r.0 r.1 f returned.disks.first returned.disks.second) is r.4.0)
      where
        by : (fault : JournalFault) → Refuses state r.0 r.1 (Refused fault) returned.disks.first returned.disks.second
            → Rose (state first).failed (state returned.disks.first).failed ⊎ Rose (state second).failed (state returned.disks.second).failed
        by DiskFailed why = ⊎_elim (λ a. inl (subst (λ (n : ℕ). Rose n (state returned.disks.first).failed) r.2.failed a))
            (λ b. inr (subst (λ (n : ℕ). Rose n (state returned.disks.second).failed) r.3.failed b)) why
        by NotAJournal why = absurd (not_none r.0 r.1 r.2 r.3 why)
        by Spent why = absurd why
        by GenerationsSpent why = absurd why

  -- ---- the device

  device_is : (store : Store D) (disks : Disks D) → AreIn store disks → device_of state store ≡ device_on (state disks.first) (state disks.second)
  device_is (Open journal) disks i =
      ap (λ d. device_on (state d) (state (second_disk journal))) (sym i.0) ∙ ap (λ d. device_on (state disks.first) (state d)) (sym i.1)
  device_is (Shut held) disks i =
      ap (λ d. device_on (state d) (state held.second)) (sym i.0) ∙ ap (λ d. device_on (state disks.first) (state d)) (sym i.1)
  device_is InHand disks i = absurd i

  pub restart_fails : (store : Store D) (disks : Disks D) (account : Account) (returned : Returned D) (fault : JournalFault) → AreIn store disks
      → Leaves (state disks.first) (state disks.second) account → returned.error ≡ Refused fault → OpensAgain state disks.first disks.second (Err returned)
      → Failed (device_of state store) (device_of state (Shut returned.disks))
  restart_fails store disks account returned fault i leaves is r =
      subst (λ (f : Device). Failed f (device_of state (Shut returned.disks))) (sym (device_is store disks i))
      (again_fails disks.first disks.second account leaves returned fault is r)

  -- the row of a restart that could not
  pub restart_stays : (store : Store D) (disks : Disks D) (account : Account) (returned : Returned D) → AreIn store disks
      → Leaves (state disks.first) (state disks.second) account → OpensAgain state disks.first disks.second (Err returned) → (old : Ledger)
      → (let l : Ledger = record { account = account; device = device_of state store } in l) ≡ old → (error : Failure DiskFault)
      → error ≡ read_error returned.error
      → Restarts old (Err error) (record {
        account = record { contents = account.contents; doubt = account.doubt; down = true };
        device = device_of state (Shut returned.disks);
      })
  restart_stays store disks account returned i leaves r old shows error is = subst (λ e. Restarts old (Err e) new) (sym is)
      (subst (λ l. Restarts l (Err (read_error returned.error)) new) shows (by returned.error refl))
    where
      new : Ledger
      new = record {
        account = record { contents = account.contents; doubt = account.doubt; down = true };
        device = device_of state (Shut returned.disks);
      }

      by : (error : Failure JournalFault) → returned.error ≡ error
          → Restarts (record { account = account; device = device_of state store }) (Err (read_error error)) new
      by (Refused fault) is = (refl, restart_fails store disks account returned fault i leaves is r)
      by NoMemory is = refl

  -- ---- a call that wrote nothing

  same_disk : (old new : State) → IsSame old new → without_room new ≡ without_room old
  same_disk old new same =
      ap (λ s. (let d : State = record { seen = s; events = new.events; failed = new.failed; calls = 0; end = 0 } in d)) same.bytes.seen
      ∙ ap (λ es. (let d : State = record { seen = old.seen; events = es; failed = new.failed; calls = 0; end = 0 } in d)) same.events
      ∙ ap (λ n. (let d : State = record { seen = old.seen; events = old.events; failed = n; calls = 0; end = 0 } in d)) same.failed

  pub same_device : (old new : OfTexts D) → SameDisks state old new → device_of state (Open new) ≡ device_of state (Open old)
  same_device old new same =
      ap (λ s. (let d : Device = record { first = s; second = without_room (state (second_disk new)) } in d))
      (same_disk (state (first_disk old)) (state (first_disk new)) same.0)
      ∙ ap (λ s. (let d : Device = record { first = without_room (state (first_disk old)); second = s } in d))
      (same_disk (state (second_disk old)) (state (second_disk new)) same.1)

  -- ---- at any moment of a call

  -- one that writes so
  pub writes_moments : (old new : OfTexts D) (account : Account) (f : Contents → Contents) → IsGoing state old account
      → AnyMoment state old new (IsEither (contents_of state old) (option_map f (contents_of state old)))
      → AtEachMoment (device_of state (Open old)) (device_of state (Open new)) (IsEither (Some account.contents) (Some (f account.contents)))
  writes_moments old new account f is m =
      let here = contents_of state old in
      record {
        first_later = m.first_later;
        second_later = m.second_later;
        each = λ x y left right. either_moved here (Some account.contents) (option_map f here) (Some (f account.contents)) x y is.contents
            (ap (option_map f) is.contents) (m.each x y left right);
      }

  -- one that calls no disk
  pub still_moments : (journal : OfTexts D) (account : Account) (other : Contents) → IsGoing state journal account
      → AtEachMoment (device_of state (Open journal)) (device_of state (Open journal)) (IsEither (Some account.contents) (Some other))
  still_moments journal account other is = record {
    first_later = omega arith;
    second_later = omega arith;
    each = λ x y left right.
        let here = going_leaves state journal account is x y (only_now (state (first_disk journal)) x left) (only_now (state (second_disk journal)) y right) in
        record {
          means = ⊎_elim (λ m. inl m) (λ m. inl (m ∙ ap (λ d. Some (written_if d account.contents)) is.doubt)) here.means;
          first_whole = here.first_whole;
          second_whole = here.second_whole;
        };
  }

  -- of a disk that was crashed, and then read
  reopened_left : (old mid new : State) → Reopened old mid → Untouched mid new → (image : List ℕ) → left_since new (moment old) image
      → may_leave old image
  reopened_left old mid new r u image left =
      ⊎_elim (λ before. ⊎_elim (λ was. only_now old image was)
      (λ now. subst (λ (l : List ℕ). may_leave old l) (sym (r.settled image now)) r.left) (r.time.nothing_else (moment old) image (omega arith) before))
      (λ same. subst (λ (l : List ℕ). may_leave old l) (sym same) r.left) (u.any_moment.before (moment old) image r.time.later left)

  -- a restart
  pub again_moments : (first second first' second' new new' : State) (account : Account) → Leaves first second account
      → Reopened first first' → Reopened second second' → Untouched first' new → Untouched second' new'
      → AtEachMoment (device_on first second) (device_on new new') (IsEither (Some account.contents) (Some (counted account)))
  again_moments first second first' second' new new' account leaves r s u v = record {
    first_later = omega (arith, r.time.later, u.any_moment.later);
    second_later = omega (arith, s.time.later, v.any_moment.later);
    each = λ x y left right.
        leaves x y (reopened_left first first' new r u x left) (reopened_left second second' new' s v y right);
  }

  pub again_opened : (first second first' second' new new' : State) → Reopened first first' → Reopened second second' → Untouched first' new
      → Untouched second' new' → Reopens (device_on first second) (device_on new new')
  again_opened first second first' second' new new' r s u v =
      (ap openings u.events ∙ r.opened, ap openings v.events ∙ s.opened)

  pub device_again : (store : Store D) (disks : Disks D) (Q : Device → Type 0) → AreIn store disks
      → Q (device_on (state disks.first) (state disks.second)) → Q (device_of state store)
  device_again store disks Q i q = subst Q (sym (device_is store disks i)) q

  -- disks that were opened, and nothing happened to them
  pub still_is : (first second first' second' : D) (device : Device) → device ≡ device_on (state first') (state second')
      → Untouched (state first) (state first') → Untouched (state second) (state second') → AreStill (state first) (state second) device
  still_is first second first' second' device is u v = subst (AreStill (state first) (state second)) (sym is) (u.seen, u.events, v.seen, v.events)

  pub none_forgotten : (first second first' second' : D) (device : Device) → device ≡ device_on (state first') (state second')
      → Untouched (state first) (state first') → Untouched (state second) (state second') → NoFewer (state first) (state second) device
  none_forgotten first second first' second' device is u v = subst (NoFewer (state first) (state second)) (sym is) (u.no_fewer, v.no_fewer)

  -- ---- between two calls

  pub stand_leaves_now : (down : Bool) (store : Store D) (account : Account) → Stands state down store account
      → Leaves (device_of state store).first (device_of state store).second account
  stand_leaves_now false (Open journal) account s = going_leaves state journal account s
  stand_leaves_now false (Shut held) account s = absurd s
  stand_leaves_now false InHand account s = absurd s
  stand_leaves_now true (Open journal) account s = s
  stand_leaves_now true (Shut held) account s = s
  stand_leaves_now true InHand account s = absurd s
