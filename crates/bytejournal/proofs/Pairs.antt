-- What two disks mean, and what a crash may leave on both.
use Rattle.std.proofs.Common.{◌≡◌, ◌⊎◌, inl, inr, ⊎_elim, ◌<◌, ℕ, Bool, true, false, not, Option, None, Some, List, [], ◌∷◌, length, if◌then◌else◌, refl, sym, ◌∙◌, subst, arith, ltb}
use Rattle.std.proofs.lemmas.Bool.Decides.{nat_tests}
use Rattle.disks.specs.State.{State, IsSettled, LeavesOnly, moment, left_since}
use Rattle.disks.specs.Laws.{only_now}
use Rattle.bytejournal.specs.Meaning.{Contents, Held, held, chosen, meaning}
use Rattle.bytejournal.specs.Meaning.Held.{Shut, Broken, Open}
use Rattle.bytejournal.specs.Journal.{IsEither, EachMoment}
use Rattle.bytejournal.specs.Opening.{HoldByte}

pub chosen_comm : (a b : Held) → chosen a b ≡ chosen b a
chosen_comm Shut Shut = refl
chosen_comm Shut Broken = refl
chosen_comm Shut (Open b) = refl
chosen_comm Broken Shut = refl
chosen_comm Broken Broken = refl
chosen_comm Broken (Open b) = refl
chosen_comm (Open a) Shut = refl
chosen_comm (Open a) Broken = refl
chosen_comm (Open a) (Open b) = either (ltb b.generation a.generation) (ltb a.generation b.generation) never
  where
    never : ltb b.generation a.generation ≡ true → ltb a.generation b.generation ≡ true → ⊥
    never less more = grind (arith, nat_tests)

    either : (less more : Bool) → (less ≡ true → more ≡ true → ⊥)
        → (if less then Some a else if more then Some b else None) ≡ (if more then Some b else if less then Some a else None)
    either true true both = absurd (both refl refl)
    either true false both = refl
    either false true both = refl
    either false false both = refl

pub meaning_comm : (x y : List ℕ) → meaning x y ≡ meaning y x
meaning_comm x y = chosen_comm (held x) (held y)

-- of two disks that mean a journal one holds a byte
pub means_byte : (first second : State) (contents : Contents) → meaning first.seen second.seen ≡ Some contents → HoldByte first second
means_byte first second contents is = by first.seen second.seen is
  where
    by : (x y : List ℕ) → meaning x y ≡ Some contents → (0 < length x) ⊎ (0 < length y)
    by [] [] none = absurd cc
    by [] (b ∷ y) some = inr (omega arith)
    by (a ∷ x) y some = inl (omega arith)

pub either_comm : (Known : Contents → Type 0) (before after : Option Contents) (x y : List ℕ) → IsEither Known before after x y
    → IsEither Known before after y x
either_comm Known before after x y is = record {
  means = ⊎_elim (λ b. inl (meaning_comm y x ∙ b)) (λ a. inr (meaning_comm y x ∙ a)) is.means;
  nothing_else = λ contents one. is.nothing_else contents (⊎_elim (λ h. inr h) (λ h. inl h) one);
  first_whole = is.second_whole;
  second_whole = is.first_whole;
}

-- the newer one counts
pub newer : (a b : Contents) → b.generation < a.generation → chosen (Open a) (Open b) ≡ Some a
newer a b less = let test : ltb b.generation a.generation ≡ true = grind (arith, nat_tests) in rw test refl

module _ {D : Type 0} (state : D → State) where
  -- the disks in the order in which they were given, whichever of them is active
  pub pair : (swapped : Bool) (active idle active' idle' : D) (P : List ℕ → List ℕ → Type 0) → ((x y : List ℕ) → P x y → P y x)
      → EachMoment (state active) (state idle) (state active') (state idle') P
      → EachMoment (state (if swapped then idle else active)) (state (if swapped then active else idle)) (state (if swapped then idle' else active'))
      (state (if swapped then active' else idle')) P
  pair false active idle active' idle' P comm is = is
  pair true active idle active' idle' P comm is = record {
    first_later = is.second_later;
    second_later = is.first_later;
    each =
        λ x y left right. comm y x (is.each y x right left);
  }

  -- where they have changed places
  pub pair_swapped : (swapped : Bool) (active idle active' idle' : D) (P : List ℕ → List ℕ → Type 0) → ((x y : List ℕ) → P x y → P y x)
      → EachMoment (state active) (state idle) (state active') (state idle') P
      → EachMoment (state (if swapped then idle else active)) (state (if swapped then active else idle)) (state (if not swapped then active' else idle'))
      (state (if not swapped then idle' else active')) P
  pair_swapped false active idle active' idle' P comm is = is
  pair_swapped true active idle active' idle' P comm is =
      record { first_later = is.second_later; second_later = is.first_later; each = λ x y left right. comm y x (is.each y x right left) }

  -- of a disk that isn't touched and has nothing pending, a crash leaves what a read gives
  pub untouched : (disk : D) → IsSettled (state disk) → (image : List ℕ) → left_since (state disk) (moment (state disk)) image
      → image ≡ (state disk).seen
  untouched disk settled image left = settled image (only_now (state disk) image left)

  -- one disk is written, the other isn't touched
  pub one_written : (active idle active' : D) (Q : List ℕ → Type 0) (R : List ℕ → List ℕ → Type 0) → IsSettled (state idle)
      → LeavesOnly (state active) (state active') Q → ((x : List ℕ) → Q x → R x (state idle).seen) → EachMoment (state active) (state idle) (state active') (state idle) R
  one_written active idle active' Q R settled run holds = record {
    first_later = run.later;
    second_later = omega arith;
    each = λ x y left right. subst (R x) (sym (untouched idle settled y right)) (holds x (run.each x left));
  }

  -- both disks are written
  pub both_written : (active idle active' idle' : D) (Q S : List ℕ → Type 0) (R : List ℕ → List ℕ → Type 0)
      → LeavesOnly (state active) (state active') Q → LeavesOnly (state idle) (state idle') S → ((x y : List ℕ) → Q x → S y → R x y)
      → EachMoment (state active) (state idle) (state active') (state idle') R
  both_written active idle active' idle' Q S R run other holds =
      record { first_later = run.later; second_later = other.later; each = λ x y left right. holds x y (run.each x left) (other.each y right) }

  -- nothing is written
  pub none_written : (active idle : D) (R : List ℕ → List ℕ → Type 0) → IsSettled (state active)
      → IsSettled (state idle) → R (state active).seen (state idle).seen → EachMoment (state active) (state idle) (state active) (state idle) R
  none_written active idle R settled settled' holds = record {
    first_later = omega arith;
    second_later = omega arith;
    each = λ x y left right. subst (R x) (sym (untouched idle settled' y right))
        (subst (λ (l : List ℕ). R l (state idle).seen) (sym (untouched active settled x left)) holds);
  }

  pub flipped : (first second first' second' : D) (P : List ℕ → List ℕ → Type 0) → ((x y : List ℕ) → P x y → P y x)
      → EachMoment (state first) (state second) (state first') (state second') P → EachMoment (state second) (state first) (state second') (state first') P
  flipped first second first' second' P comm is = record {
    first_later = is.second_later;
    second_later = is.first_later;
    each =
        λ x y left right. comm y x (is.each y x right left);
  }
