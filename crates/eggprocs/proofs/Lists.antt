-- Tests and counts of lists.
use Rattle.std.proofs.Common.{◌≡◌, ◌∙◌, ◌<◌, ◌≤◌, ◌&&◌, ◌||◌, ◌∷◌, ◌++◌, not, ℕ, zero, suc, List, [], length, get_or, take, filter, Bool, true, false, cond, refl, ap, sym, arith, Option, Some, None}
use Rattle.std.specs.Prelude.{find, unwrap_or}
use Rattle.std.specs.List.{list_all, list_any, filter_map, cons_option, count_by}
use Rattle.std.proofs.lemmas.Bool.{and_from, or_parts, or_right}
use Rattle.std.proofs.lemmas.List.Elements.{filter-append}
use Rattle.std.proofs.lemmas.List.Sums.{AllPass-from_list_all, list_all-from_AllPass, length-filter}

-- ---- tests

-- if each that passes one test passes another, and some passes the one, some passes the other
pub any-more : {X : Type 0} (p q : X → Bool) (xs : List X) → ((x : X) → p x ≡ true → q x ≡ true) → list_any p xs ≡ true → list_any q xs ≡ true
any-more p q [] more is = is
any-more p q (x ∷ xs) more is = by (p x) (q x) (list_any p xs) (list_any q xs) (more x) (any-more p q xs more) is
  where
    by : (a b c d : Bool) → (a ≡ true → b ≡ true) → (c ≡ true → d ≡ true) → (a || c) ≡ true → (b || d) ≡ true
    by true b c d first rest is = ap (λ (t : Bool). t || d) (first refl)
    by false true c d first rest is = refl
    by false false c d first rest is = rest is

-- if each that passes one test passes another, and none passes the other, none passes the one
pub none-more : {X : Type 0} (p q : X → Bool) (xs : List X) → ((x : X) → p x ≡ true → q x ≡ true) → list_any q xs ≡ false → list_any p xs ≡ false
none-more p q xs more none = by (list_any p xs) refl
  where
    by : (some : Bool) → list_any p xs ≡ some → some ≡ false
    by false is = refl
    by true is = sym (any-more p q xs more is) ∙ none

-- tests that give each element the same are the same of some
pub any-same : {X : Type 0} (p q : X → Bool) (xs : List X) → ((x : X) → p x ≡ q x) → list_any p xs ≡ list_any q xs
any-same p q [] same = refl
any-same p q (x ∷ xs) same = ap (λ (b : Bool). b || list_any p xs) (same x) ∙ ap (λ (b : Bool). q x || b) (any-same p q xs same)

pub all-of : {X : Type 0} (p q : X → Bool) (xs : List X) → ((x : X) → p x ≡ true → q x ≡ true) → list_all p xs ≡ true → list_all q xs ≡ true
all-of p q xs more all =
    list_all-from_AllPass q xs (λ k d within. more (get_or xs k d) (AllPass-from_list_all p xs all k d within))

-- each of these is of an element that gives it
pub all-given : {X Y : Type 0} (h : X → Option Y) (is_of : Y → X → Bool) → ((x : X) (y : Y) → h x ≡ Some y → is_of y x ≡ true)
    → (xs : List X) → list_all (λ y. list_any (is_of y) xs) (filter_map h xs) ≡ true
all-given h is_of gives [] = refl
all-given {X} {Y} h is_of gives (x ∷ xs) =
    by (h x) (λ y is. gives x y is)
    (all-of (λ y. list_any (is_of y) xs) (λ y. list_any (is_of y) (x ∷ xs)) (filter_map h xs)
    (λ y among. or_right (is_of y x) (list_any (is_of y) xs) among) (all-given h is_of gives xs))
  where
    by : (given : Option Y) → ((y : Y) → given ≡ Some y → is_of y x ≡ true)
        → list_all (λ y. list_any (is_of y) (x ∷ xs)) (filter_map h xs) ≡ true
        → list_all (λ y. list_any (is_of y) (x ∷ xs)) (cons_option given (filter_map h xs)) ≡ true
    by None here rest = rest
    by (Some y) here rest =
        and_from (list_any (is_of y) (x ∷ xs)) (list_all (λ z. list_any (is_of z) (x ∷ xs)) (filter_map h xs))
        (ap (λ (b : Bool). b || list_any (is_of y) xs) (here y refl)) rest

-- ---- counts

-- what passes p passes q: no fewer pass q
no-fewer : {X : Type 0} (p q : X → Bool) → ((x : X) → p x ≡ true → q x ≡ true) → (xs : List X) → length (filter p xs) ≤ length (filter q xs)
no-fewer p q wider [] = omega arith
no-fewer p q wider (x ∷ xs) = by (p x) (q x) (wider x) (no-fewer p q wider xs)
  where
    by : (a b : Bool) → (a ≡ true → b ≡ true) → length (filter p xs) ≤ length (filter q xs)
        → length (cond a (x ∷ filter p xs) (filter p xs)) ≤ length (cond b (x ∷ filter q xs) (filter q xs))
    by true true w h = omega (arith, h)
    by true false w h = let bad = w refl in cc
    by false true w h = omega (arith, h)
    by false false w h = h

-- and some pass q alone: fewer pass p
fewer-left : {X : Type 0} (p q : X → Bool) → ((x : X) → p x ≡ true → q x ≡ true) → (xs : List X)
    → list_any (λ x. q x && not (p x)) xs ≡ true → length (filter p xs) < length (filter q xs)
fewer-left p q wider [] there = cc
fewer-left p q wider (x ∷ xs) there = by (p x) (q x) (wider x) (no-fewer p q wider xs) (list_any (λ y. q y && not (p y)) xs) (fewer-left p q wider xs) there
  where
    by : (a b : Bool) → (a ≡ true → b ≡ true) → length (filter p xs) ≤ length (filter q xs)
        → (rest : Bool) → (rest ≡ true → length (filter p xs) < length (filter q xs)) → ((b && not a) || rest) ≡ true
        → length (cond a (x ∷ filter p xs) (filter p xs)) < length (cond b (x ∷ filter q xs) (filter q xs))
    by true true w h rest more is = omega (arith, more is)
    by true false w h rest more is = let bad = w refl in cc
    by false true w h rest more is = omega (arith, h)
    by false false w h rest more is = more is

pub fewer : {X : Type 0} (p q : X → Bool) → ((x : X) → p x ≡ true → q x ≡ true) → (xs : List X)
    → list_any (λ x. q x && not (p x)) xs ≡ true → count_by p xs < count_by q xs
fewer p q wider xs there = omega (arith, fewer-left p q wider xs there, length-filter p xs, length-filter q xs)

-- none pass: the count is 0
none-left : {X : Type 0} (p : X → Bool) (xs : List X) → list_any p xs ≡ false → length (filter p xs) ≡ 0
none-left p [] none = refl
none-left p (x ∷ xs) none =
    let parts = or_parts (p x) (list_any p xs) none in
    ap (λ (b : Bool). length (cond b (x ∷ filter p xs) (filter p xs))) parts.0 ∙ none-left p xs parts.1

pub none-counted : {X : Type 0} (p : X → Bool) (xs : List X) → list_any p xs ≡ false → count_by p xs ≡ 0
none-counted p xs none = sym (length-filter p xs) ∙ none-left p xs none

-- one that does not pass changes no count
pub count-without : {X : Type 0} (p : X → Bool) (before after : List X) (x : X) → p x ≡ false → count_by p (before ++ x ∷ after) ≡ count_by p (before ++ after)
count-without p before after x none =
    sym (length-filter p (before ++ x ∷ after))
    ∙ ap length (filter-append p before (x ∷ after) ∙ ap (λ (b : Bool). filter p before ++ cond b (x ∷ filter p after) (filter p after)) none ∙ sym (filter-append p before after))
    ∙ length-filter p (before ++ after)

pub find-without : {X : Type 0} (p : X → Bool) (before after : List X) (x : X) → p x ≡ false → find p (before ++ x ∷ after) ≡ find p (before ++ after)
find-without p [] after x none = ap (λ (b : Bool). cond b (Some x) (find p after)) none
find-without p (y ∷ before) after x none = ap (λ (o : Option _). cond (p y) (Some y) o) (find-without p before after x none)

-- none is found if none passes
pub found-none : {X : Type 0} (p : X → Bool) (xs : List X) → list_any p xs ≡ false → find p xs ≡ None
found-none p [] none = refl
found-none {X} p (x ∷ xs) none =
    let parts = or_parts (p x) (list_any p xs) none in
    ap (λ (b : Bool). cond b (Some x) (find p xs)) parts.0 ∙ found-none p xs parts.1

-- what passes, behind what does not, is found
pub first-found : {X : Type 0} (p : X → Bool) (xs : List X) (count : ℕ) (x : X) → count < length xs → x ≡ get_or xs count x
    → list_any p (take count xs) ≡ false → p x ≡ true → find p xs ≡ Some x
first-found p [] count x within at none is = absurd (omega (arith, within))
first-found {X} p (y ∷ ys) zero x within at none is =
    ap (λ (z : X). cond (p z) (Some z) (find p ys)) (sym at) ∙ ap (λ (b : Bool). cond b (Some x) (find p ys)) is
first-found {X} p (y ∷ ys) (suc count) x within at none is =
    let parts = or_parts (p y) (list_any p (take count ys)) none in
    ap (λ (b : Bool). cond b (Some y) (find p ys)) parts.0 ∙ first-found p ys count x (omega (arith, within)) at parts.1 is

-- what is found passes
pub found-among : {X : Type 0} (p q : X → Bool) (xs : List X) (one : X) → find p xs ≡ Some one → q one ≡ true → list_any (λ x. p x && q x) xs ≡ true
found-among p q [] one is good = cc
found-among {X} p q (x ∷ xs) one is good = by (p x) (found-among p q xs one) is
  where
    by : (b : Bool) → (find p xs ≡ Some one → q one ≡ true → list_any (λ y. p y && q y) xs ≡ true) → cond b (Some x) (find p xs) ≡ Some one
        → ((b && q x) || list_any (λ y. p y && q y) xs) ≡ true
    by true rest here = ap (λ (t : Bool). t || list_any (λ y. p y && q y) xs) (ap q (ap (λ (o : Option X). unwrap_or o x) here) ∙ good)
    by false rest here = rest here good

-- some element passes, and with it any test that it passes
pub record Among {X : Type 0} (p : X → Bool) (xs : List X) : Type 0 where
  pub one : X
  pub passes : p one ≡ true
  pub any : (q : X → Bool) → q one ≡ true → list_any q xs ≡ true

pub among : {X : Type 0} (p : X → Bool) (xs : List X) → list_any p xs ≡ true → Among p xs
among p [] is = cc
among {X} p (x ∷ xs) is = by (p x) (among p xs) refl is
  where
    by : (b : Bool) → (list_any p xs ≡ true → Among p xs) → p x ≡ b → (b || list_any p xs) ≡ true → Among p (x ∷ xs)
    by true among-rest here some = record { one = x; passes = here; any = λ q good. ap (λ (t : Bool). t || list_any q xs) good }
    by false among-rest here some =
        let rest = among-rest some in
        record { one = rest.one; passes = rest.passes; any = λ q good. later (q x) (list_any q xs) (rest.any q good) }
      where
        later : (a b : Bool) → b ≡ true → (a || b) ≡ true
        later true b e = refl
        later false b e = e
