-- What each call and each crash keeps stands over any number of them, whatever it is that two images have to be.
use Rattle.std.proofs.Common.{⊎_elim, ℕ, List, sym, subst, arith}
use Rattle.disks.specs.State.{State, moment, may_leave, left_since}
use Rattle.disks.specs.Laws.{seen_is_left, counts_now, only_now}
use Rattle.bytejournal.specs.declared.journal.Journal.{Journal}
use Rattle.bytejournal.specs.Journal.{EachMoment}
use Rattle.bytejournal.specs.Opening.{Untouched, Reopened}
use Rattle.bytejournal.specs.Recovery.{Stage, first_of, second_of, IsLeft, Happens, Lives, IsRecoverable, IsIntact}
use Rattle.bytejournal.specs.Recovery.Stage.{InProgram, OnDisks}
use Rattle.bytejournal.specs.Recovery.Happens.{returned, crashed}
use Rattle.bytejournal.specs.Recovery.Lives.{so_far, more}

module _ {D : Type 0} (state : D → State) (IsJournal : List ℕ → List ℕ → Type 0) where
  -- at each moment between two stages a crash leaves a journal
  abbrev pub Stays : D → D → D → D → Type 0
  Stays first second first' second' = EachMoment (state first) (state second) (state first') (state second') IsJournal

  abbrev pub IsKept : D → D → Type 0
  IsKept first second = IsRecoverable state IsJournal first second

  abbrev pub IsStageKept : Stage D → Type 0
  IsStageKept stage = IsKept (first_of stage) (second_of stage)

  -- at each moment of a call that goes from the one stage to the other
  abbrev pub StageStays : Stage D → Stage D → Type 0
  StageStays old new = Stays (first_of old) (second_of old) (first_of new) (second_of new)

-- a journal that a program holds may be called
abbrev pub Callable : {D : Type 0} → (Journal D → Type 0) → Stage D → Type 0
Callable MayCall (InProgram journal) = MayCall journal
Callable MayCall (OnDisks first second) = Unit {0}

module _ {D : Type 0} (state : D → State) (IsJournal : List ℕ → List ℕ → Type 0) where
  -- ---- moments

  pub seen_journal : (first second : D) → IsKept state IsJournal first second → IsJournal (state first).seen (state second).seen
  seen_journal first second is = is (state first).seen (state second).seen (seen_is_left (state first)) (seen_is_left (state second))

  -- then it does so afterwards
  pub after_moments : (first second first' second' : D) → Stays state IsJournal first second first' second' → IsKept state IsJournal first' second'
  after_moments first second first' second' stays x y left right = stays.each x y (counts_now (state first') (moment (state first)) x stays.first_later left)
      (counts_now (state second') (moment (state second)) y stays.second_later right)

  pub no_moments : (first second : D) → IsKept state IsJournal first second → Stays state IsJournal first second first second
  no_moments first second is = record {
    first_later = omega arith;
    second_later = omega arith;
    each = λ x y left right. is x y (only_now (state first) x left) (only_now (state second) y right);
  }

  -- disks that were opened: nothing was written
  pub untouched : (first second first' second' : D) → IsKept state IsJournal first second → Untouched (state first) (state first')
      → Untouched (state second) (state second') → Stays state IsJournal first second first' second'
  untouched first second first' second' is a b = record {
    first_later = a.any_moment.later;
    second_later = b.any_moment.later;
    each = λ x y left right. subst (λ (l : List ℕ). IsJournal l y) (sym (a.any_moment.each x left))
        (subst (λ (l : List ℕ). IsJournal (state first).seen l) (sym (b.any_moment.each y right)) (seen_journal first second is));
  }

  -- a disk that was crashed leaves what it might have left before
  reopened_leaves : (old new : D) → Reopened (state old) (state new) → (image : List ℕ) → left_since (state new) (moment (state old)) image
      → may_leave (state old) image
  reopened_leaves old new is image left =
      ⊎_elim (λ before. only_now (state old) image before)
      (λ now. subst (λ (l : List ℕ). may_leave (state old) l) (sym (is.settled image now)) is.left)
      (is.time.nothing_else (moment (state old)) image (omega arith) left)

  pub reopened : (first second first' second' : D) → IsKept state IsJournal first second → Reopened (state first) (state first')
      → Reopened (state second) (state second') → Stays state IsJournal first second first' second'
  reopened first second first' second' is a b = record {
    first_later = a.time.later;
    second_later = b.time.later;
    each =
        λ x y left right. is x y (reopened_leaves first first' a x left) (reopened_leaves second second' b y right);
  }

  -- a disk that was crashed and then opened
  left_earlier : (old mid new : D) → Reopened (state old) (state mid) → Untouched (state mid) (state new) → (image : List ℕ)
      → left_since (state new) (moment (state old)) image → may_leave (state old) image
  left_earlier old mid new a b image left =
      ⊎_elim (λ before. reopened_leaves old mid a image before)
      (λ seen. subst (λ (l : List ℕ). may_leave (state old) l) (sym seen) a.left)
      (b.any_moment.before (moment (state old)) image a.time.later left)

  pub opened_again : (first second mid mid' first' second' : D) → IsKept state IsJournal first second → Reopened (state first) (state mid)
      → Reopened (state second) (state mid') → Untouched (state mid) (state first') → Untouched (state mid') (state second')
      → Stays state IsJournal first second first' second'
  opened_again first second mid mid' first' second' is a b c d = record {
    first_later = omega (arith, a.time.later, c.any_moment.later);
    second_later = omega (arith, b.time.later, d.any_moment.later);
    each = λ x y left right. is x y (left_earlier first mid first' a c x left) (left_earlier second mid' second' b d y right);
  }

  crash_keeps : (old new : Stage D) (first second : D) → Stays state IsJournal (first_of old) (second_of old) (first_of new) (second_of new)
      → IsLeft state (first_of old) (first_of new) first → IsLeft state (second_of old) (second_of new) second → IsKept state IsJournal first second
  crash_keeps old new first second stays a b x y left right =
      subst (λ (l : List ℕ). IsJournal l y) (sym (a.settled x left))
      (subst (λ (l : List ℕ). IsJournal (state first).seen l) (sym (b.settled y right))
      (stays.each (state first).seen (state second).seen a.image b.image))

  -- ---- stages

  module _ (MayCall : Journal D → Type 0) where
    kept_is : (stage : Stage D) → IsIntact state MayCall IsJournal stage → IsStageKept state IsJournal stage
    kept_is (InProgram journal) is = is.1
    kept_is (OnDisks first second) is = is

    is_kept : (stage : Stage D) → Callable MayCall stage → IsStageKept state IsJournal stage → IsIntact state MayCall IsJournal stage
    is_kept (InProgram journal) may is = (may, is)
    is_kept (OnDisks first second) may is = is

    module _ (Calls : Stage D → Stage D → Type 0)
        (call_stays : (old new : Stage D) → Calls old new → IsStageKept state IsJournal old → StageStays state IsJournal old new)
        (call_callable : (old new : Stage D) → Calls old new → IsStageKept state IsJournal old → Callable MayCall new) where
      one_more : {old new : Stage D} → Happens state Calls old new → IsIntact state MayCall IsJournal old → IsIntact state MayCall IsJournal new
      one_more (returned {old} {new} call) kept = is_kept new (call_callable old new call (kept_is old kept))
          (after_moments (first_of old) (second_of old) (first_of new) (second_of new) (call_stays old new call (kept_is old kept)))
      one_more (crashed {old} {new} {first} {second} call a b) kept = crash_keeps old new first second (call_stays old new call (kept_is old kept)) a b

      pub all_kept : {first last : Stage D} → Lives state Calls first last → IsIntact state MayCall IsJournal first
          → IsIntact state MayCall IsJournal last
      all_kept so_far kept = kept
      all_kept (more step rest) kept = all_kept rest (one_more step kept)
