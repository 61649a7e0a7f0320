-- Tests of the elements of a list: whether one passes, where the first is, and which it is. For callers.
use Rattle.std.proofs.Common.{◌≡◌, ◌≤◌, Bool, true, false, cond, Some, None, List, [], ◌∷◌, ◌++◌, length, find, refl, ap, ◌∙◌, arith}
use Rattle.std.specs.List.{list_any, position, position_or_len}
use Rattle.std.proofs.lemmas.Bool.{or_parts, ltb-false}
use Rattle.std.proofs.lemmas.List.Folds.{list_any_none, list_any-append}
use Rattle.std.proofs.lemmas.List.Sums.{fails_before_first}

-- where none passes, none is found
pub find-none : {X : Type 0} (p : X → Bool) (xs : List X) → list_any p xs ≡ false → find p xs ≡ None
find-none p [] none = refl
find-none p (x ∷ xs) none =
    let parts = or_parts (p x) (list_any p xs) none in
    ap (λ b. cond b (Some x) (find p xs)) parts.0 ∙ find-none p xs parts.1

cond-none : {X : Type 0} (b : Bool) (x : X) → cond b (Some x) None ≡ None → b ≡ false
cond-none true x is = cc
cond-none false x is = refl

-- where no place is given, none passes
pub list_any-no_position : {X : Type 0} (p : X → Bool) (xs : List X) → position p xs ≡ None → list_any p xs ≡ false
list_any-no_position p xs none =
    let past : length xs ≤ position_or_len p xs = ltb-false _ _ (cond-none _ _ none) in
    list_any_none p xs (λ k d less. fails_before_first p xs k d (omega arith))

-- one more that fails
pub list_any-push : {X : Type 0} (p : X → Bool) (xs : List X) (y : X) → list_any p xs ≡ false → p y ≡ false → list_any p (xs ++ y ∷ []) ≡ false
list_any-push p xs y none last = rw (list_any-append p xs (y ∷ []), none, last) refl
