-- Lists in which no two elements have is_same names.
use Rattle.std.proofs.Common.{◌≡◌, ℕ, Bool, true, false, cond, ◌||◌, List, [], ◌∷◌, ◌++◌, map, refl, ap, ◌∙◌}
use Rattle.std.specs.List.{list_any}
use Rattle.rfccase.specs.Casemapping.{is_same_by}
use Rattle.chanstate.specs.Firsts.{first_removed, first_changed}
use Rattle.chanstate.proofs.BoolLemmas.{or-parts}
use Rattle.bytetext.proofs.Lists.{list_any-push}
use Rattle.rfccase.proofs.SameLemmas.{is_same_by-left, is_same_by-sym}
use Rattle.chanstate.proofs.FindLemmas.{any-agree, any-removed, any-changed, AtMostOne, Within}
use Rattle.rfccase.specs.declared.casemappings.Casemapping.{Casemapping}

-- the test for a name
abbrev pub by : {X : Type 0} → (mapping : Casemapping) → (X → List ℕ) → List ℕ → X → Bool
by mapping key name x = is_same_by mapping name (key x)

abbrev pub Distinct : {X : Type 0} → (mapping : Casemapping) → (X → List ℕ) → List X → Type 0
Distinct mapping key [] = Unit {0}
Distinct mapping key (x ∷ xs) = (list_any (by mapping key (key x)) xs ≡ false) × Distinct mapping key xs

pub at_most_one : {X : Type 0} (mapping : Casemapping) (key : X → List ℕ) (name : List ℕ) (xs : List X) → Distinct mapping key xs → AtMostOne (by mapping key name) xs
at_most_one mapping key name [] distinct = tt
at_most_one mapping key name (x ∷ xs) distinct =
    (λ is. any-agree (by mapping key name) (by mapping key (key x)) (λ y. is_same_by-left mapping name (key x) (key y) is) xs ∙ distinct.0, at_most_one mapping key name xs distinct.1)

removed_step : {X : Type 0} (mapping : Casemapping) (key : X → List ℕ) (b : Bool) (x : X) (xs ys : List X) → Distinct mapping key xs
    → (list_any (by mapping key (key x)) ys ≡ false) × Distinct mapping key ys → Distinct mapping key (cond b xs (x ∷ ys))
removed_step mapping key true x xs ys distinct rest = distinct
removed_step mapping key false x xs ys distinct rest = rest

pub distinct-removed : {X : Type 0} (mapping : Casemapping) (key : X → List ℕ) (q : X → Bool) (xs : List X) → Distinct mapping key xs → Distinct mapping key (first_removed q xs)
distinct-removed mapping key q [] distinct = tt
distinct-removed mapping key q (x ∷ xs) distinct =
    removed_step mapping key (q x) x xs (first_removed q xs) distinct.1 (any-removed (by mapping key (key x)) q xs distinct.0, distinct-removed mapping key q xs distinct.1)

changed_step : {X : Type 0} (mapping : Casemapping) (key : X → List ℕ) (b : Bool) (y x : X) (xs ys : List X) → (b ≡ true → Distinct mapping key (y ∷ xs))
    → (b ≡ false → Distinct mapping key (x ∷ ys)) → Distinct mapping key (cond b (y ∷ xs) (x ∷ ys))
changed_step mapping key true y x xs ys here there = here refl
changed_step mapping key false y x xs ys here there = there refl

-- an edit that keeps the names
pub distinct-changed : {X : Type 0} (mapping : Casemapping) (key : X → List ℕ) (q : X → Bool) (f : X → X) → ((x : X) → key (f x) ≡ key x) → (xs : List X) → Distinct mapping key xs
    → Distinct mapping key (first_changed q f xs)
distinct-changed mapping key q f keeps [] distinct = tt
distinct-changed mapping key q f keeps (x ∷ xs) distinct =
    changed_step mapping key (q x) (f x) x xs (first_changed q f xs)
    (λ _. (ap (λ name. list_any (by mapping key name) xs) (keeps x) ∙ distinct.0, distinct.1))
    (λ _. (any-changed (by mapping key (key x)) q f xs distinct.0 (λ y none. ap (is_same_by mapping (key x)) (keeps y) ∙ none), distinct-changed mapping key q f keeps xs distinct.1))

pub distinct-end : {X : Type 0} (mapping : Casemapping) (key : X → List ℕ) (xs : List X) (y : X) → Distinct mapping key xs → list_any (by mapping key (key y)) xs ≡ false
    → Distinct mapping key (xs ++ y ∷ [])
distinct-end mapping key [] y distinct none = (refl, tt)
distinct-end mapping key (x ∷ xs) y distinct none =
    let parts = or-parts (is_same_by mapping (key y) (key x)) (list_any (by mapping key (key y)) xs) none in
    (list_any-push (by mapping key (key x)) xs y distinct.0 (is_same_by-sym mapping (key x) (key y) ∙ parts.0), distinct-end mapping key xs y distinct.1 parts.1)

-- what passes p passes q
pub within-all : {X : Type 0} (p q : X → Bool) → ((x : X) → q x ≡ false → p x ≡ false) → (xs : List X) → Within p q xs
within-all p q all [] = tt
within-all p q all (x ∷ xs) = (all x, within-all p q all xs)

pub within-none : {X : Type 0} (p q : X → Bool) (xs : List X) → list_any p xs ≡ false → Within p q xs
within-none p q [] none = tt
within-none p q (x ∷ xs) none = let parts = or-parts (p x) (list_any p xs) none in (λ _. parts.0, within-none p q xs parts.1)

none_within : {X : Type 0} (p q : X → Bool) (xs : List X) → Within p q xs → list_any q xs ≡ false → list_any p xs ≡ false
none_within p q [] within none = refl
none_within p q (x ∷ xs) within none = let parts = or-parts (q x) (list_any q xs) none in rw (within.0 parts.0) (none_within p q xs within.1 parts.1)

-- an edit that gives the first of a name a new one, which nothing else has
pub distinct-renamed : {X : Type 0} (mapping : Casemapping) (key : X → List ℕ) (f : X → X) (old new : List ℕ) → ((x : X) → key (f x) ≡ new) → (xs : List X) → Distinct mapping key xs
    → Within (by mapping key new) (by mapping key old) xs → Distinct mapping key (first_changed (by mapping key old) f xs)
distinct-renamed mapping key f old new made [] distinct within = tt
distinct-renamed mapping key f old new made (x ∷ xs) distinct within =
    changed_step mapping key (by mapping key old x) (f x) x xs (first_changed (by mapping key old) f xs)
    (λ is. (
      ap (λ name. list_any (by mapping key name) xs) (made x)
          ∙ none_within (by mapping key new) (by mapping key old) xs within.1 ((at_most_one mapping key old (x ∷ xs) distinct).0 is),
      distinct.1,
    ))
    (λ is. (
      any-changed (by mapping key (key x)) (by mapping key old) f xs distinct.0 (λ y none. ap (is_same_by mapping (key x)) (made y) ∙ (is_same_by-sym mapping (key x) new ∙ within.0 is)),
      distinct-renamed mapping key f old new made xs distinct.1 within.1,
    ))

pub any-map : {X Y : Type 0} (p : Y → Bool) (q : X → Bool) (f : X → Y) → ((x : X) → p (f x) ≡ q x) → (xs : List X) → list_any p (map f xs) ≡ list_any q xs
any-map p q f same [] = refl
any-map p q f same (x ∷ xs) = ap (λ b. b || list_any p (map f xs)) (same x) ∙ ap (λ b. q x || b) (any-map p q f same xs)

pub distinct-map : {X : Type 0} (mapping : Casemapping) (key : X → List ℕ) (f : X → X) → ((x : X) → key (f x) ≡ key x) → (xs : List X) → Distinct mapping key xs → Distinct mapping key (map f xs)
distinct-map mapping key f keeps [] distinct = tt
distinct-map mapping key f keeps (x ∷ xs) distinct = (
  ap (λ name. list_any (by mapping key name) (map f xs)) (keeps x)
      ∙ (any-map (by mapping key (key x)) (by mapping key (key x)) f (λ y. ap (is_same_by mapping (key x)) (keeps y)) xs ∙ distinct.0),
  distinct-map mapping key f keeps xs distinct.1,
)
