-- Lists in which nothing is there twice, and tests of each element, after one is added or some are taken out.
use Rattle.std.proofs.Common.{◌≡◌, suc, ◌≤◌, Bool, true, false, cond, ◌&&◌, ◌||◌, List, [], ◌∷◌, ◌++◌, length, filter, find, Some, is_some}
use Rattle.std.proofs.Common.{refl, ◌∙◌, arith}
use Rattle.std.specs.List.{list_any, list_all}
use Rattle.bytetext.proofs.Lists.{list_any-push}
use Rattle.userfile.specs.Together.{repeats}

-- ---- tests

pub or_false : {a b : Bool} → (a || b) ≡ false → (a ≡ false) × (b ≡ false)
or_false {a = true} e = cc
or_false {a = false} e = (refl, e)

pub or_both : {a b : Bool} → a ≡ false → b ≡ false → (a || b) ≡ false
or_both e f = rw (e, f) refl

pub and_true : {a b : Bool} → (a && b) ≡ true → (a ≡ true) × (b ≡ true)
and_true {a = true} e = (refl, e)
and_true {a = false} e = cc

pub and_both : {a b : Bool} → a ≡ true → b ≡ true → (a && b) ≡ true
and_both e f = rw (e, f) refl

-- ---- each and some

pub list_any-filter : {X : Type 0} (q p : X → Bool) (xs : List X) → list_any q xs ≡ false → list_any q (filter p xs) ≡ false
list_any-filter q p [] e = e
list_any-filter q p (x ∷ xs) e = by (p x) (or_false e).0 (list_any-filter q p xs (or_false e).1)
  where
    by : (b : Bool) → q x ≡ false → list_any q (filter p xs) ≡ false → list_any q (cond b (x ∷ filter p xs) (filter p xs)) ≡ false
    by true f r = or_both f r
    by false f r = r

pub list_all-filter : {X : Type 0} (q p : X → Bool) (xs : List X) → list_all q xs ≡ true → list_all q (filter p xs) ≡ true
list_all-filter q p [] e = e
list_all-filter q p (x ∷ xs) e = by (p x) (and_true e).0 (list_all-filter q p xs (and_true e).1)
  where
    by : (b : Bool) → q x ≡ true → list_all q (filter p xs) ≡ true → list_all q (cond b (x ∷ filter p xs) (filter p xs)) ≡ true
    by true f r = and_both f r
    by false f r = r

pub list_all-push : {X : Type 0} (q : X → Bool) (xs : List X) (y : X) → list_all q xs ≡ true → q y ≡ true → list_all q (xs ++ y ∷ []) ≡ true
list_all-push q [] y e f = and_both f refl
list_all-push q (x ∷ xs) y e f = and_both (and_true e).0 (list_all-push q xs y (and_true e).1 f)

pub length-filter-le : {X : Type 0} (p : X → Bool) (xs : List X) → length (filter p xs) ≤ length xs
length-filter-le p [] = omega arith
length-filter-le p (x ∷ xs) = by (p x) (length-filter-le p xs)
  where
    by : (b : Bool) → length (filter p xs) ≤ length xs → length (cond b (x ∷ filter p xs) (filter p xs)) ≤ suc (length xs)
    by true h = omega (arith, h)
    by false h = omega (arith, h)

-- something is found exactly where one of the elements passes
pub is_some-find : {X : Type 0} (p : X → Bool) (xs : List X) → is_some (find p xs) ≡ list_any p xs
is_some-find p [] = refl
is_some-find p (x ∷ xs) = by (p x) (is_some-find p xs)
  where
    by : (b : Bool) → is_some (find p xs) ≡ list_any p xs → is_some (cond b (Some x) (find p xs)) ≡ (b || list_any p xs)
    by true r = refl
    by false r = r

-- ---- nothing is there twice

pub repeats-filter : {X : Type 0} (same : X → X → Bool) (p : X → Bool) (xs : List X) → repeats same xs ≡ false → repeats same (filter p xs) ≡ false
repeats-filter same p [] r = r
repeats-filter same p (x ∷ xs) r = by (p x) (list_any-filter (same x) p xs (or_false r).0) (repeats-filter same p xs (or_false r).1)
  where
    by : (b : Bool) → list_any (same x) (filter p xs) ≡ false → repeats same (filter p xs) ≡ false
        → repeats same (cond b (x ∷ filter p xs) (filter p xs)) ≡ false
    by true f rest = or_both f rest
    by false f rest = rest

pub repeats-push : {X : Type 0} (same : X → X → Bool) → ((x y : X) → same x y ≡ same y x) → (xs : List X) (y : X) → repeats same xs ≡ false
    → list_any (same y) xs ≡ false → repeats same (xs ++ y ∷ []) ≡ false
repeats-push same symmetric [] y r h = refl
repeats-push same symmetric (x ∷ xs) y r h =
    or_both (list_any-push (same x) xs y (or_false r).0 (symmetric x y ∙ (or_false h).0)) (repeats-push same symmetric xs y (or_false r).1 (or_false h).1)
