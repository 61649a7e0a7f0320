-- The first of a list that passes a test, at the place that `position` gives.
use Rattle.std.proofs.Common.{◌≡◌, ℕ, zero, suc, ◌<◌, Bool, true, false, cond, Some, List, [], ◌∷◌, length, map}
use Rattle.std.proofs.Common.{get_or, position, arith, ap, ◌∙◌, sym, refl}
use Rattle.std.specs.List.{list_any, remove}
use Rattle.std.specs.Set.{remove_key}
use Rattle.std.proofs.lemmas.Bool.{cond-true, cond-false}
use Rattle.std.proofs.lemmas.List.Folds.{list_any_at}
use Rattle.std.proofs.lemmas.List.Quantifiers.{position-Some}
use Rattle.bottimers.proofs.EntryLists.{map-cond}

-- one is without the first that passes
remove-first : {X : Type 0} (p : X → Bool) (xs : List X) (i : ℕ) (d : X) → i < length xs → p (get_or xs i d) ≡ true
    → ((k : ℕ) → k < i → p (get_or xs k d) ≡ false) → remove xs i ≡ remove_key p xs
remove-first p [] i d within passes before = absurd (let short : i < 0 = within in omega arith)
remove-first p (x ∷ xs) zero d within passes before = sym (cond-true (p x) _ _ passes)
remove-first p (x ∷ xs) (suc i) d within passes before =
    ap (λ ys. x ∷ ys) (remove-first p xs i d (omega arith) passes (λ k less. before (suc k) (omega arith)))
    ∙ sym (cond-false (p x) _ _ (before 0 (omega arith)))

pub remove-position : {X : Type 0} (p : X → Bool) (xs : List X) (i : ℕ) (d : X) → position p xs ≡ Some i → remove xs i ≡ remove_key p xs
remove-position p xs i d is =
    let found = position-Some p xs i d is in
    remove-first p xs i d found.0 found.1 found.2

-- one passes where there is a place
pub list_any-Some : {X : Type 0} (p : X → Bool) (xs : List X) (i : ℕ) (d : X) → position p xs ≡ Some i → list_any p xs ≡ true
list_any-Some p xs i d is =
    let found = position-Some p xs i d is in
    list_any_at p xs i d found.0 found.1

-- the first that passes is taken out of what f gives
pub remove_key-map : {A B : Type 0} (p : B → Bool) (f : A → B) (xs : List A) → remove_key p (map f xs) ≡ map f (remove_key (λ x. p (f x)) xs)
remove_key-map p f [] = refl
remove_key-map p f (x ∷ xs) =
    ap (λ ys. cond (p (f x)) (map f xs) (f x ∷ ys)) (remove_key-map p f xs)
    ∙ sym (map-cond f (p (f x)) xs (x ∷ remove_key (λ x. p (f x)) xs))
