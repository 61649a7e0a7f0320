-- An element that a test finds, and that no other element shares the test with: taken away, changed, or found.
use Rattle.std.proofs.Common.{◌≡◌, ℕ, zero, suc, ◌<◌, Bool, true, false, not, cond, ◌||◌, List, [], ◌∷◌, length, map, filter, find, get_or}
use Rattle.std.proofs.lemmas.Bool.{or_parts}
use Rattle.std.proofs.Common.{set, Option, Some, None, refl, sym, ap, ◌∙◌, arith}
use Rattle.std.specs.List.{list_any, remove, position}
use Rattle.bytetext.proofs.Lists.{list_any-no_position}
use Rattle.procs.specs.Wishes.{IsAt}
use Rattle.std.proofs.lemmas.List.Quantifiers.{position-Some}

-- no two elements pass
abbrev pub AtMostOnce : {X : Type 0} → (X → Bool) → List X → Type 0
AtMostOnce t [] = Unit {0}
AtMostOnce t (x ∷ xs) = (t x ≡ true → list_any t xs ≡ false) × AtMostOnce t xs

-- where none passes, none goes
pub filter-none : {X : Type 0} (t : X → Bool) (xs : List X) → list_any t xs ≡ false → filter (λ x. not (t x)) xs ≡ xs
filter-none t [] none = refl
filter-none t (x ∷ xs) none =
    let parts = or_parts (t x) (list_any t xs) none in
    ap (λ b. cond (not b) (x ∷ filter (λ y. not (t y)) xs) (filter (λ y. not (t y)) xs)) parts.0 ∙ ap (λ ys. x ∷ ys) (filter-none t xs parts.1)

-- where none passes, none is changed
pub map-none : {X : Type 0} (t : X → Bool) (f : X → X) (xs : List X) → list_any t xs ≡ false → map (λ x. cond (t x) (f x) x) xs ≡ xs
map-none t f [] none = refl
map-none t f (x ∷ xs) none =
    let parts = or_parts (t x) (list_any t xs) none in
    ap (λ b. cond b (f x) x ∷ map (λ y. cond (t y) (f y) y) xs) parts.0 ∙ ap (λ ys. x ∷ ys) (map-none t f xs parts.1)

pub list_any-at : {X : Type 0} (t : X → Bool) (xs : List X) (i : ℕ) (d : X) → i < length xs → t (get_or xs i d) ≡ true → list_any t xs ≡ true
list_any-at t [] i d within passes = absurd (omega arith)
list_any-at t (x ∷ xs) zero d within passes = ap (λ b. b || list_any t xs) passes
list_any-at t (x ∷ xs) (suc i) d within passes = by (t x) (list_any-at t xs i d (omega arith) passes)
  where
    by : (b : Bool) → list_any t xs ≡ true → (b || list_any t xs) ≡ true
    by true e = refl
    by false e = e

pub fails_before : {X : Type 0} (t : X → Bool) (x : X) (xs : List X) (i : ℕ) (d : X) → (t x ≡ true → list_any t xs ≡ false) → i < length xs
    → t (get_or xs i d) ≡ true
    → t x ≡ false
fails_before t x xs i d only within passes = by (t x) refl
  where
    by : (b : Bool) → t x ≡ b → t x ≡ false
    by true e = let none = only e in let some = list_any-at t xs i d within passes in absurd cc
    by false e = e

-- the one that passes taken away is all that fail
pub remove-once : {X : Type 0} (t : X → Bool) (xs : List X) (i : ℕ) (d : X) → AtMostOnce t xs → i < length xs → t (get_or xs i d) ≡ true
    → remove xs i ≡ filter (λ x. not (t x)) xs
remove-once t [] i d once within passes = absurd (omega arith)
remove-once t (x ∷ xs) zero d once within passes =
    sym (ap (λ b. cond (not b) (x ∷ filter (λ y. not (t y)) xs) (filter (λ y. not (t y)) xs)) passes ∙ filter-none t xs (once.0 passes))
remove-once t (x ∷ xs) (suc i) d once within passes =
    let fails = fails_before t x xs i d once.0 (omega arith) passes in
    ap (λ ys. x ∷ ys) (remove-once t xs i d once.1 (omega arith) passes)
    ∙ sym (ap (λ b. cond (not b) (x ∷ filter (λ y. not (t y)) xs) (filter (λ y. not (t y)) xs)) fails)

-- the one that passes changed is the change of each that passes
pub set-once : {X : Type 0} (t : X → Bool) (f : X → X) (xs : List X) (i : ℕ) (d : X) → AtMostOnce t xs → i < length xs → t (get_or xs i d) ≡ true
    → set xs i (f (get_or xs i d)) ≡ map (λ x. cond (t x) (f x) x) xs
set-once t f [] i d once within passes = absurd (omega arith)
set-once t f (x ∷ xs) zero d once within passes =
    sym (ap (λ b. cond b (f x) x ∷ map (λ y. cond (t y) (f y) y) xs) passes ∙ ap (λ ys. f x ∷ ys) (map-none t f xs (once.0 passes)))
set-once t f (x ∷ xs) (suc i) d once within passes =
    let fails = fails_before t x xs i d once.0 (omega arith) passes in
    ap (λ ys. x ∷ ys) (set-once t f xs i d once.1 (omega arith) passes)
    ∙ sym (ap (λ b. cond b (f x) x ∷ map (λ y. cond (t y) (f y) y) xs) fails)

-- the one that passes is found
pub find-once : {X : Type 0} (t : X → Bool) (xs : List X) (i : ℕ) (d : X) → AtMostOnce t xs → i < length xs → t (get_or xs i d) ≡ true
    → find t xs ≡ Some (get_or xs i d)
find-once t [] i d once within passes = absurd (omega arith)
find-once t (x ∷ xs) zero d once within passes = ap (λ b. cond b (Some x) (find t xs)) passes
find-once t (x ∷ xs) (suc i) d once within passes =
    ap (λ b. cond b (Some x) (find t xs)) (fails_before t x xs i d once.0 (omega arith) passes) ∙ find-once t xs i d once.1 (omega arith) passes

-- what passes neither of two tests together is not found among those that pass both
pub list_any-kept : {X Y : Type 0} (f : Y → Bool) (g : X → Y) (p q : X → Bool) → ((x : X) → p x ≡ true → q x ≡ true → f (g x) ≡ false) → (xs : List X)
    → list_any f (map g (filter p (filter q xs))) ≡ false
list_any-kept f g p q fails [] = refl
list_any-kept {X} {Y} f g p q fails (x ∷ xs) = by_second (q x) (p x) (λ a b. fails x b a) (list_any-kept f g p q fails xs) refl
  where
    by_first : (b : Bool) → (b ≡ true → f (g x) ≡ false) → (ps : List X) → list_any f (map g ps) ≡ false → list_any f (map g (cond b (x ∷ ps) ps)) ≡ false
    by_first true here ps rest = ap (λ c. c || list_any f (map g ps)) (here refl) ∙ rest
    by_first false here ps rest = rest

    by_second : (b c : Bool) → (b ≡ true → c ≡ true → f (g x) ≡ false) → list_any f (map g (filter p (filter q xs))) ≡ false → p x ≡ c
        → list_any f (map g (filter p (cond b (x ∷ filter q xs) (filter q xs)))) ≡ false
    by_second true c here rest e = by_first (p x) (λ passes. here refl (sym e ∙ passes)) (filter p (filter q xs)) rest
    by_second false c here rest e = rest

-- what a search through a copy of the list has found
pub IsAt-position : {X : Type 0} (t : X → Bool) (xs ys : List X) (r : Option ℕ) (i : ℕ) (d : X) → ys ≡ xs → r ≡ position t ys → r ≡ Some i → IsAt t xs i
IsAt-position {X} t xs ys r i d same found is =
    let at : position t xs ≡ Some i = ap (position t) (sym same) ∙ (sym found ∙ is) in
    record { within = (position-Some t xs i d at).0; passes = λ e. (position-Some t xs i e at).1 }

-- what it has not found
pub none-found : {X : Type 0} (t : X → Bool) (xs ys : List X) (r : Option ℕ) → ys ≡ xs → r ≡ position t ys → r ≡ None → list_any t xs ≡ false
none-found t xs ys r same found is = list_any-no_position t xs (ap (position t) (sym same) ∙ (sym found ∙ is))
