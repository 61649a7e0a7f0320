-- Lists whose items all pass a test, and what is left of them.
use Rattle.std.proofs.Common.{◌≡◌, ℕ, zero, suc, ◌-◌, Bool, true, List, [], ◌∷◌, ◌++◌, filter, map, take, drop, length, refl, ◌∙◌, ap, arith}
use Rattle.std.specs.Prelude.{slice_set, slice_index_or}
use Rattle.std.proofs.Math.Seq.{take-append_seam}
use Rattle.std.proofs.lemmas.List.{length-append, set-set, set-get_or}
use Rattle.std.specs.List.{list_all}
use Rattle.std.proofs.lemmas.Bool.{and_from, and_parts, cond_both}

pub list_all-filtered : {X : Type 0} (p q r : X → Bool) → ((x : X) → p x ≡ true → r x ≡ true → q x ≡ true)
    → (xs : List X) → list_all p xs ≡ true → list_all q (filter r xs) ≡ true
list_all-filtered p q r step [] all = refl
list_all-filtered p q r step (x ∷ xs) all =
    let parts = and_parts (p x) (list_all p xs) all in
    let more = list_all-filtered p q r step xs parts.1 in
    cond_both (r x) (x ∷ filter r xs) (filter r xs) (λ l. list_all q l ≡ true)
    (λ is. and_from (q x) (list_all q (filter r xs)) (step x parts.0 is) more) (λ isnt. more)

pub list_all-mapped : {X : Type 0} (p q : X → Bool) (f : X → X) → ((x : X) → p x ≡ true → q (f x) ≡ true)
    → (xs : List X) → list_all p xs ≡ true → list_all q (map f xs) ≡ true
list_all-mapped p q f step [] all = refl
list_all-mapped p q f step (x ∷ xs) all =
    let parts = and_parts (p x) (list_all p xs) all in
    and_from (q (f x)) (list_all q (map f xs)) (step x parts.0) (list_all-mapped p q f step xs parts.1)

pub list_all-weaker : {X : Type 0} (p q : X → Bool) → ((x : X) → p x ≡ true → q x ≡ true)
    → (xs : List X) → list_all p xs ≡ true → list_all q xs ≡ true
list_all-weaker p q step [] all = refl
list_all-weaker p q step (x ∷ xs) all =
    let parts = and_parts (p x) (list_all p xs) all in
    and_from (q x) (list_all q xs) (step x parts.0) (list_all-weaker p q step xs parts.1)

pub list_all-taken : {X : Type 0} (p : X → Bool) (n : ℕ) (xs : List X) → list_all p xs ≡ true → list_all p (take n xs) ≡ true
list_all-taken p zero xs all = refl
list_all-taken p (suc n) [] all = refl
list_all-taken p (suc n) (x ∷ xs) all =
    let parts = and_parts (p x) (list_all p xs) all in
    and_from (p x) (list_all p (take n xs)) parts.0 (list_all-taken p n xs parts.1)

pub list_all-dropped : {X : Type 0} (p : X → Bool) (n : ℕ) (xs : List X) → list_all p xs ≡ true → list_all p (drop n xs) ≡ true
list_all-dropped p zero xs all = all
list_all-dropped p (suc n) [] all = refl
list_all-dropped p (suc n) (x ∷ xs) all = list_all-dropped p n xs (and_parts (p x) (list_all p xs) all).1

pub list_all-set : {X : Type 0} (p : X → Bool) (xs : List X) (i : ℕ) (y : X) → p y ≡ true → list_all p xs ≡ true
    → list_all p (slice_set xs i y) ≡ true
list_all-set p [] i y is all = refl
list_all-set p (x ∷ xs) zero y is all = and_from (p y) (list_all p xs) is (and_parts (p x) (list_all p xs) all).1
list_all-set p (x ∷ xs) (suc i) y is all =
    let parts = and_parts (p x) (list_all p xs) all in
    and_from (p x) (list_all p (slice_set xs i y)) parts.0 (list_all-set p xs i y is parts.1)

pub list_all-index : {X : Type 0} (p : X → Bool) (xs : List X) (i : ℕ) (d : X) → p d ≡ true → list_all p xs ≡ true
    → p (slice_index_or xs i d) ≡ true
list_all-index p [] i d is all = is
list_all-index p (x ∷ xs) zero d is all = (and_parts (p x) (list_all p xs) all).0
list_all-index p (x ∷ xs) (suc i) d is all = list_all-index p xs i d is (and_parts (p x) (list_all p xs) all).1

-- without the last item, a list is as before that came
pub take_pushed : {X : Type 0} (xs : List X) (y : X) → take (length (xs ++ y ∷ []) - 1) (xs ++ y ∷ []) ≡ xs
take_pushed xs y =
    let size : length (xs ++ y ∷ []) - 1 ≡ length xs = omega (arith, length-append xs (y ∷ [])) in
    ap (λ n. take n (xs ++ y ∷ [])) size ∙ take-append_seam xs (y ∷ [])

-- what was at a place, put back there
pub set_back : {X : Type 0} (xs : List X) (i : ℕ) (y d : X) → slice_set (slice_set xs i y) i (slice_index_or xs i d) ≡ xs
set_back xs i y d = set-set xs i y (slice_index_or xs i d) ∙ set-get_or xs i d
