-- Edits of the first element that passes, at the place that `position` gives.
use Rattle.std.proofs.Common.{◌≡◌, ℕ, zero, suc, ◌<◌, Bool, true, false, Option, Some, None, List, [], ◌∷◌, ◌++◌, length, get_or, set, refl, sym}
use Rattle.std.proofs.Common.{ap, ◌∙◌, arith}
use Rattle.std.specs.List.{position, list_any, remove}
use Rattle.std.specs.Prelude.{find}
use Rattle.std.proofs.lemmas.List.Quantifiers.{position-Some}
use Rattle.std.proofs.lemmas.List.Edits.{remove-append_left}
use Rattle.std.proofs.lemmas.Bool.{cond-true, cond-false}
use Rattle.bytetext.proofs.Lists.{list_any-no_position}
use Rattle.chanstate.proofs.BoolLemmas.{or-parts}
use Rattle.chanstate.specs.Firsts.{first_removed, first_changed}

-- p holds at i, and nowhere before
pub record IsFirst {X : Type 0} (p : X → Bool) (xs : List X) (i : ℕ) (d : X) : Type 0 where
  pub within : i < length xs
  pub passes : p (get_or xs i d) ≡ true
  pub before : (k : ℕ) → k < i → p (get_or xs k d) ≡ false

pub tail-first : {X : Type 0} (p : X → Bool) (x : X) (xs : List X) (i : ℕ) (d : X) → IsFirst p (x ∷ xs) (suc i) d → IsFirst p xs i d
tail-first p x xs i d first = record {
  within = let within : suc i < suc (length xs) = first.within in omega arith;
  passes = first.passes;
  before = λ k less. first.before (suc k) (omega arith);
}

pub first_changed-first : {X : Type 0} (p : X → Bool) (f : X → X) (xs : List X) (i : ℕ) (d : X) → IsFirst p xs i d
    → first_changed p f xs ≡ set xs i (f (get_or xs i d))
first_changed-first p f [] i d first = absurd (let within : i < 0 = first.within in omega arith)
first_changed-first p f (x ∷ xs) zero d first = cond-true (p x) _ _ first.passes
first_changed-first p f (x ∷ xs) (suc i) d first =
    cond-false (p x) _ _ (first.before 0 (omega arith)) ∙ ap (λ rest. x ∷ rest) (first_changed-first p f xs i d (tail-first p x xs i d first))

pub first_removed-first : {X : Type 0} (p : X → Bool) (xs : List X) (i : ℕ) (d : X) → IsFirst p xs i d → first_removed p xs ≡ remove xs i
first_removed-first p [] i d first = absurd (let within : i < 0 = first.within in omega arith)
first_removed-first p (x ∷ xs) zero d first = cond-true (p x) _ _ first.passes
first_removed-first p (x ∷ xs) (suc i) d first =
    cond-false (p x) _ _ (first.before 0 (omega arith)) ∙ ap (λ rest. x ∷ rest) (first_removed-first p xs i d (tail-first p x xs i d first))

pub list_any-first : {X : Type 0} (p : X → Bool) (xs : List X) (i : ℕ) (d : X) → IsFirst p xs i d → list_any p xs ≡ true
list_any-first p [] i d first = absurd (let within : i < 0 = first.within in omega arith)
list_any-first p (x ∷ xs) zero d first = let passes : p x ≡ true = first.passes in rw passes refl
list_any-first p (x ∷ xs) (suc i) d first =
    let fails : p x ≡ false = first.before 0 (omega arith) in
    rw fails (list_any-first p xs i d (tail-first p x xs i d first))

-- a place that is given is the first that passes
pub first-from_position : {X : Type 0} (p : X → Bool) (xs : List X) (i : ℕ) (d : X) → position p xs ≡ Some i → IsFirst p xs i d
first-from_position p xs i d is = let found = position-Some p xs i d is in record { within = found.0; passes = found.1; before = found.2 }

pub first_changed-nowhere : {X : Type 0} (p : X → Bool) (f : X → X) (xs : List X) → list_any p xs ≡ false → first_changed p f xs ≡ xs
first_changed-nowhere p f [] none = refl
first_changed-nowhere p f (x ∷ xs) none =
    let parts = or-parts (p x) (list_any p xs) none in
    cond-false (p x) _ _ parts.0 ∙ ap (λ rest. x ∷ rest) (first_changed-nowhere p f xs parts.1)

pub first_removed-nowhere : {X : Type 0} (p : X → Bool) (xs : List X) → list_any p xs ≡ false → first_removed p xs ≡ xs
first_removed-nowhere p [] none = refl
first_removed-nowhere p (x ∷ xs) none =
    let parts = or-parts (p x) (list_any p xs) none in
    cond-false (p x) _ _ parts.0 ∙ ap (λ rest. x ∷ rest) (first_removed-nowhere p xs parts.1)

-- the same, as the code writes them: ys is the list before as the caller sees it, and o the answer of the search

pub changed_at : {X : Type 0} (p : X → Bool) (f : X → X) (xs ys : List X) (i : ℕ) (x y : X) → xs ≡ ys → Some i ≡ position p ys → x ≡ get_or xs i x
    → f x ≡ y → set xs i y ≡ first_changed p f ys
changed_at p f xs ys i x y same is read made =
    let at : x ≡ get_or ys i x = read ∙ ap (λ zs. get_or zs i x) same in
    ap (λ zs. set zs i y) same ∙ (ap (λ z. set ys i z) (sym made ∙ ap f at) ∙ sym (first_changed-first p f ys i x (first-from_position p ys i x (sym is))))

pub removed_at : {X : Type 0} (p : X → Bool) (xs ys : List X) (i : ℕ) (d : X) → xs ≡ ys → Some i ≡ position p ys → remove xs i ≡ first_removed p ys
removed_at p xs ys i d same is =
    ap (λ zs. remove zs i) same ∙ sym (first_removed-first p ys i d (first-from_position p ys i d (sym is)))

pub nowhere : {X : Type 0} (p : X → Bool) (ys : List X) (o : Option ℕ) → o ≡ position p ys → o ≡ None → list_any p ys ≡ false
nowhere p ys o is none = list_any-no_position p ys (sym is ∙ none)

pub somewhere : {X : Type 0} (p : X → Bool) (ys : List X) (i : ℕ) (d : X) → Some i ≡ position p ys → list_any p ys ≡ true
somewhere p ys i d is = list_any-first p ys i d (first-from_position p ys i d (sym is))

pub changed_nowhere : {X : Type 0} (p : X → Bool) (f : X → X) (ys : List X) (o : Option ℕ) → o ≡ position p ys → o ≡ None → ys ≡ first_changed p f ys
changed_nowhere p f ys o is none = sym (first_changed-nowhere p f ys (nowhere p ys o is none))

pub removed_nowhere : {X : Type 0} (p : X → Bool) (ys : List X) (o : Option ℕ) → o ≡ position p ys → o ≡ None → ys ≡ first_removed p ys
removed_nowhere p ys o is none = sym (first_removed-nowhere p ys (nowhere p ys o is none))

-- what is at that place is the first that passes
found_first : {X : Type 0} (p : X → Bool) (xs : List X) (i : ℕ) (d : X) → IsFirst p xs i d → find p xs ≡ Some (get_or xs i d)
found_first p [] i d first = absurd (let within : i < 0 = first.within in omega arith)
found_first p (x ∷ xs) zero d first = cond-true (p x) _ _ first.passes
found_first p (x ∷ xs) (suc i) d first = cond-false (p x) _ _ (first.before 0 (omega arith)) ∙ found_first p xs i d (tail-first p x xs i d first)

pub found_at : {X : Type 0} (p : X → Bool) (xs ys : List X) (i : ℕ) (x : X) → xs ≡ ys → Some i ≡ position p ys → x ≡ get_or xs i x → find p ys ≡ Some x
found_at p xs ys i x same is read =
    found_first p ys i x (first-from_position p ys i x (sym is)) ∙ ap Some (sym (read ∙ ap (λ zs. get_or zs i x) same))

-- one more at the end, and then the first that passes is taken out
pub removed_behind : {X : Type 0} (p : X → Bool) (xs ys : List X) (i : ℕ) (one : X) → xs ≡ ys → Some i ≡ position p ys
    → remove (xs ++ one ∷ []) i ≡ first_removed p ys ++ one ∷ []
removed_behind p xs ys i one same is =
    let within : i < length xs = rw same (first-from_position p ys i one (sym is)).within in
    remove-append_left xs (one ∷ []) i within ∙ ap (λ zs. zs ++ one ∷ []) (removed_at p xs ys i one same is)
