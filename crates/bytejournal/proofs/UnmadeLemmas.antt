-- Disks on which no journal was ever made.
use Rattle.std.proofs.Common.{◌≡◌, ◌⊎◌, inl, inr, ◌==◌, ◌-◌, Bool, true, false, ℕ, min, None, List, [], ◌∷◌, ◌++◌, length, take, drop, refl, sym, ◌∙◌, ap, subst, arith, leb}
use Rattle.std.specs.Prelude.{if◌then◌else◌}
use Rattle.std.specs.Str.{bytes_eq}
use Rattle.std.proofs.lemmas.Bool.{leb-true}
use Rattle.std.proofs.lemmas.List.{take_at, take-take, take_min, length-take}
use Rattle.bytejournal.specs.Meaning.{Contents, Held, held, chosen, meaning, letters, from_letters}
use Rattle.bytejournal.specs.Meaning.Held.{Shut, Broken, Open}
use Rattle.bytejournal.specs.Recovery.{IsJournal}
use Rattle.bytejournal.proofs.Recovering.{none_is_not_some}
use Rattle.bytejournal.specs.Unmade.{is_unmade, is_unmade_front}

-- ---- what is read of a disk

pub read_front : (seen buf : List ℕ) (n : ℕ) → n ≡ min 5 (length seen - 0) → take n (take n (drop 0 seen) ++ drop n buf) ≡ take 5 seen
read_front seen buf n is =
    let same : n ≡ min 5 (length seen) = omega (arith, is) in
    take_at (take n seen) (drop n buf) n (omega (arith, length-take n seen, same))
    ∙ subst (λ (k : ℕ). take k seen ≡ take 5 seen) (sym same) (take_min 5 seen)

-- the first five bytes tell
pub front_tells : (first : List ℕ) → is_unmade_front (take 5 first) ≡ is_unmade_front first
front_tells [] = refl
front_tells (gate ∷ []) = refl
front_tells (gate ∷ next ∷ rest) =
    ap (λ (l : List ℕ). if gate == 1 then false else if gate == 0 then true else bytes_eq (next ∷ l) letters) (take-take 3 3 rest (omega arith))

-- ---- such disks hold no journal

-- a disk holds nothing that counts
abbrev IsNothing : Held → Type 0
IsNothing disk = (disk ≡ Shut) ⊎ (disk ≡ Broken)

open_is_something : (contents : Contents) → IsNothing (Open contents) → ⊥
open_is_something contents (inl shut) = cc
open_is_something contents (inr broken) = cc

chosen_of_nothing : (a b : Held) → IsNothing a → IsNothing b → chosen a b ≡ None
chosen_of_nothing Shut Shut a b = refl
chosen_of_nothing Shut Broken a b = refl
chosen_of_nothing Shut (Open contents) a b = absurd (open_is_something contents b)
chosen_of_nothing Broken disk a b = refl
chosen_of_nothing (Open contents) disk a b = absurd (open_is_something contents a)

gate_alone : (gate : ℕ) → IsNothing (held (gate ∷ []))
gate_alone gate = elim (gate == 1) as (λ (b : Bool). IsNothing (if b then from_letters [] else Shut)) [ true ↦ inr refl | false ↦ inl refl ]

not_both : false ≡ true → ⊥
not_both is = cc

nothing_at_front : (first : List ℕ) → is_unmade_front first ≡ true → IsNothing (held first)
nothing_at_front [] is = inl refl
nothing_at_front (gate ∷ []) is = gate_alone gate
nothing_at_front (gate ∷ next ∷ rest) is =
    by_gate (gate == 1) (if gate == 0 then true else bytes_eq (take 4 (next ∷ rest)) letters) (from_letters (next ∷ rest)) is
  where
    by_gate : (b c : Bool) (disk : Held) → (if b then false else c) ≡ true → IsNothing (if b then disk else Shut)
    by_gate true c disk is = absurd (not_both is)
    by_gate false c disk is = inl refl

nothing_within_a_byte : (second : List ℕ) → leb (length second) 1 ≡ true → IsNothing (held second)
nothing_within_a_byte [] is = inl refl
nothing_within_a_byte (gate ∷ []) is = gate_alone gate
nothing_within_a_byte (gate ∷ next ∷ rest) is = absurd (omega (arith, leb-true _ _ is))

both : (b c : Bool) → (if b then c else false) ≡ true → (b ≡ true) × (c ≡ true)
both true c is = (refl, is)
both false c is = absurd (not_both is)

is_false : (b : Bool) → (b ≡ true → ⊥) → b ≡ false
is_false true never = absurd (never refl)
is_false false never = refl

-- what a crash leaves of a journal that was made is never taken for such disks
pub made : (first second : List ℕ) → IsJournal first second → is_unmade first second ≡ false
made first second is =
    is_false (is_unmade first second) (λ unmade.
    let parts = both (leb (length second) 1) (is_unmade_front first) unmade in
    none_is_not_some (meaning first second) (chosen_of_nothing (held first) (held second) (nothing_at_front first parts.1) (nothing_within_a_byte second parts.0)) is.some)
