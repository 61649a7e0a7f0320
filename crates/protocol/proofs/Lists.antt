-- Numbered items, lists that grow, functions with one value replaced, and the records at versions.
use Rattle.std.proofs.Common.{◌≡◌, ◌⊎◌, inl, inr, ℕ, zero, suc, ◌+◌, ◌-◌, ◌<◌, ◌≤◌, ◌==◌, Bool, true, false, ◌||◌, if◌then◌else◌, List, [], ◌∷◌, ◌++◌, length, take, drop, slice_get, Some, refl, ap, sym, subst, ◌∙◌, arith, append_assoc, length-append, eqb-true, eq-eqb, slice_set, ltb-true, nat_lt}
use Rattle.std.proofs.lemmas.Bool.{eqb-false}
use Rattle.std.proofs.lemmas.Bool.Decides.{nat_tests}
use Rattle.std.proofs.lemmas.List.{take-append-le, take_more, append-nil}
use Rattle.std.proofs.lemmas.Option.{slice_get_within, get_or_from_slice_get}
use Rattle.std.specs.Option.{option_map}
use Rattle.std.specs.List.{AllByRecursion}
use Rattle.userfile.specs.Records.{Records, no_records}
use Rattle.userfile.specs.Apply.{changed}
use Rattle.userfile.specs.Versions.{after_changes}
use Rattle.userfile.specs.declared.change.Change.{Change as UserChange}
use Rattle.protocol.specs.Numbers.{item_at, last_item, set_at, Place, Below, Same, Next, Above, place_of}
use Rattle.protocol.specs.Packets.{AcceptedChange}
use Rattle.protocol.specs.History.{changes_of, records_of, Extends, AllExtend}

-- ---- numbered items

slice_get-front : {X : Type 0} (xs ys : List X) (i : ℕ) (x : X) → slice_get xs i ≡ Some x → slice_get (xs ++ ys) i ≡ Some x
slice_get-front [] ys i x e = cc
slice_get-front (z ∷ xs) ys zero x e = e
slice_get-front (z ∷ xs) ys (suc i) x e = slice_get-front xs ys i x e

slice_get-end : {X : Type 0} (xs ys : List X) (x : X) → slice_get (xs ++ x ∷ ys) (length xs) ≡ Some x
slice_get-end [] ys x = refl
slice_get-end (z ∷ xs) ys x = slice_get-end xs ys x

slice_get-last : {X : Type 0} (xs : List X) (y : X) (i : ℕ) (x : X) → slice_get (xs ++ y ∷ []) i ≡ Some x
    → (slice_get xs i ≡ Some x) ⊎ ((i ≡ length xs) × (y ≡ x))
slice_get-last [] y zero x e = inr (refl, cc)
slice_get-last [] y (suc i) x e = cc
slice_get-last (z ∷ xs) y zero x e = inl e
slice_get-last (z ∷ xs) y (suc i) x e = elim (slice_get-last xs y i x e) [ inl h ↦ inl h | inr h ↦ inr (ap suc h.0, h.1) ]

pub item_at-more : {X : Type 0} (xs ys : List X) (n : ℕ) (x : X) → Extends xs ys → item_at xs n ≡ Some x → item_at ys n ≡ Some x
item_at-more xs ys zero x more e = cc
item_at-more xs ys (suc i) x more e = rw more.1 (slice_get-front xs more.0 i x e)

pub item_at-end : {X : Type 0} (xs : List X) (x : X) → item_at (xs ++ x ∷ []) (length xs + 1) ≡ Some x
item_at-end xs x = let same : length xs + 1 ≡ suc (length xs) = omega arith in rw same (slice_get-end xs [] x)

pub item_at-last : {X : Type 0} (xs : List X) (y : X) (n : ℕ) (x : X) → item_at (xs ++ y ∷ []) n ≡ Some x
    → (item_at xs n ≡ Some x) ⊎ ((n ≡ length xs + 1) × (y ≡ x))
item_at-last xs y zero x e = cc
item_at-last xs y (suc i) x e = elim (slice_get-last xs y i x e) [ inl h ↦ inl h | inr h ↦ inr (omega (arith, h.0), h.1) ]

pub item_at-within : {X : Type 0} (xs : List X) (n : ℕ) (x : X) → item_at xs n ≡ Some x → n ≤ length xs
item_at-within xs zero x e = cc
item_at-within xs (suc i) x e = slice_get_within xs i x e

pub item_at-take : {X : Type 0} (xs : List X) (n i : ℕ) (x : X) → item_at (take n xs) i ≡ Some x → item_at xs i ≡ Some x
item_at-take xs n zero x e = cc
item_at-take xs zero (suc i) x e = cc
item_at-take [] (suc n) (suc i) x e = cc
item_at-take (y ∷ xs) (suc n) (suc zero) x e = e
item_at-take (y ∷ xs) (suc n) (suc (suc i)) x e = item_at-take xs n (suc i) x e

pub item_at-drop : {X : Type 0} (xs : List X) (n i : ℕ) (x : X) → item_at (drop n xs) i ≡ Some x → item_at xs (n + i) ≡ Some x
item_at-drop xs n zero x e = cc
item_at-drop xs zero (suc i) x e = let same : 0 + suc i ≡ suc i = omega arith in rw same e
item_at-drop [] (suc n) (suc i) x e = cc
item_at-drop (y ∷ xs) (suc n) (suc i) x e =
    let same : suc n + suc i ≡ suc (suc (n + i)) = omega arith in
    let rest : n + suc i ≡ suc (n + i) = omega arith in
    rw same (rw rest at (item_at-drop xs n (suc i) x e))

pub last_item-end : {X : Type 0} (xs : List X) (x : X) → last_item (xs ++ x ∷ []) ≡ Some x
last_item-end xs x =
    let last : length (xs ++ x ∷ []) - 1 ≡ length xs = omega (arith, length-append xs (x ∷ [])) in rw last (slice_get-end xs [] x)

-- ---- all of some

pub all-take : {X : Type 0} (P : X → Type 0) (n : ℕ) (xs : List X) → AllByRecursion P xs → AllByRecursion P (take n xs)
all-take P zero xs all = tt
all-take P (suc n) [] all = tt
all-take P (suc n) (x ∷ xs) all = (all.0, all-take P n xs all.1)

pub all-drop : {X : Type 0} (P : X → Type 0) (n : ℕ) (xs : List X) → AllByRecursion P xs → AllByRecursion P (drop n xs)
all-drop P zero xs all = all
all-drop P (suc n) [] all = tt
all-drop P (suc n) (x ∷ xs) all = all-drop P n xs all.1

pub all-append : {X : Type 0} (P : X → Type 0) (xs ys : List X) → AllByRecursion P xs → AllByRecursion P ys
    → AllByRecursion P (xs ++ ys)
all-append P [] ys all more = more
all-append P (x ∷ xs) ys all more = (all.0, all-append P xs ys all.1 more)

-- ---- places

abbrev Tells : ℕ → ℕ → Place → Type 0
Tells n v Below = n < v
Tells n v Same = n ≡ v
Tells n v Next = n ≡ v + 1
Tells n v Above = v + 1 < n

pub place_tells : (n v : ℕ) (p : Place) → place_of n v ≡ p → Tells n v p
place_tells n v p e = subst (Tells n v) e (by (nat_lt n v) refl (n == v) refl (n == (v + 1)) refl)
  where
    by : (a : Bool) → nat_lt n v ≡ a → (b : Bool) → (n == v) ≡ b → (c : Bool) → (n == (v + 1)) ≡ c
        → Tells n v (if a then Below else if b then Same else if c then Next else Above)
    by true x b y c z = ltb-true n v x
    by false x true y c z = eqb-true n v y
    by false x false y true z = eqb-true n (v + 1) z
    by false x false y false z = grind (arith, nat_tests)

-- ---- growing

pub Extends-refl : {X : Type 0} (xs : List X) → Extends xs xs
Extends-refl xs = ([], sym (append-nil xs))

pub Extends-one : {X : Type 0} (xs : List X) (x : X) → Extends xs (xs ++ x ∷ [])
Extends-one xs x = (x ∷ [], refl)

pub Extends-trans : {X : Type 0} (xs ys zs : List X) → Extends xs ys → Extends ys zs → Extends xs zs
Extends-trans {X} xs ys zs a b = (a.0 ++ b.0, b.1 ∙ ap (λ (l : List X). l ++ b.0) a.1 ∙ append_assoc xs a.0 b.0)

pub Extends-length : {X : Type 0} (xs ys : List X) → Extends xs ys → length xs ≤ length ys
Extends-length xs ys more = omega (arith, ap length more.1, length-append xs more.0)

pub length-one : {X : Type 0} (xs : List X) (x : X) → length (xs ++ x ∷ []) ≡ length xs + 1
length-one xs x = length-append xs (x ∷ [])

-- ---- one value replaced by `set_at`

pub set_at-elim : {X : Type 0} (P : ℕ → X → Type 0) (f : ℕ → X) (i : ℕ) (x : X) → P i x → ((j : ℕ) → P j (f j)) → (j : ℕ)
    → P j (set_at f i x j)
set_at-elim P f i x here there j = by (j == i) refl
  where
    by : (b : Bool) → (j == i) ≡ b → P j (if b then x else f j)
    by true e = subst (λ k. P k x) (sym (eqb-true j i e)) here
    by false e = there j

slice_set-same : {X : Type 0} (xs : List X) (i : ℕ) (x y : X) → slice_get (slice_set xs i x) i ≡ Some y → x ≡ y
slice_set-same [] i x y e = cc
slice_set-same (z ∷ xs) zero x y e = cc
slice_set-same (z ∷ xs) (suc i) x y e = slice_set-same xs i x y e

pub slice_set-other : {X : Type 0} (xs : List X) (i j : ℕ) (x : X) → (j ≡ i → ⊥) → slice_get (slice_set xs i x) j ≡ slice_get xs j
slice_set-other [] i j x other = refl
slice_set-other (z ∷ xs) zero zero x other = absurd (other refl)
slice_set-other (z ∷ xs) zero (suc j) x other = refl
slice_set-other (z ∷ xs) (suc i) zero x other = refl
slice_set-other (z ∷ xs) (suc i) (suc j) x other = slice_set-other xs i j x (λ e. other (ap suc e))

-- a list with one item replaced
pub slice_set-elim : {X : Type 0} (P : ℕ → X → Type 0) (xs : List X) (i : ℕ) (x : X) → P i x
    → ((j : ℕ) (z : X) → slice_get xs j ≡ Some z → P j z) → (j : ℕ) (z : X) → slice_get (slice_set xs i x) j ≡ Some z → P j z
slice_set-elim P xs i x here there j z e = by (j == i) refl
  where
    by : (b : Bool) → (j == i) ≡ b → P j z
    by true f =
        let same : j ≡ i = eqb-true j i f in
        let is : x ≡ z = slice_set-same xs i x z (subst (λ k. slice_get (slice_set xs i x) k ≡ Some z) same e) in
        subst (λ k. P k z) (sym same) (subst (λ v. P i v) is here)
    by false f = there j z (sym (slice_set-other xs i j x (λ same. eqb-false j i f same)) ∙ e)

slice_set-had : {X : Type 0} (xs : List X) (i : ℕ) (x y : X) → slice_get (slice_set xs i x) i ≡ Some y
    → (u : X) × (slice_get xs i ≡ Some u)
slice_set-had [] i x y e = cc
slice_set-had (z ∷ xs) zero x y e = (z, refl)
slice_set-had (z ∷ xs) (suc i) x y e = slice_set-had xs i x y e

-- a list with one item replaced by `set_at`, beside a function with one value so replaced
pub set-elim : {X Y : Type 0} (P : ℕ → X → Y → Type 0) (xs : List X) (g : ℕ → Y) (i : ℕ) (x : X) (y : Y)
    → ((u : X) → slice_get xs i ≡ Some u → P (suc i) x y)
    → ((j : ℕ) (z : X) → slice_get xs j ≡ Some z → P (suc j) z (g (suc j))) → (j : ℕ) (z : X) → slice_get (slice_set xs i x) j ≡ Some z
    → P (suc j) z (set_at g (suc i) y (suc j))
set-elim P xs g i x y here there j z e = by (suc j == suc i) refl
  where
    by : (b : Bool) → (suc j == suc i) ≡ b → P (suc j) z (if b then y else g (suc j))
    by true f =
        let same : j ≡ i = omega (arith, eqb-true (suc j) (suc i) f) in
        let is : x ≡ z = slice_set-same xs i x z (subst (λ k. slice_get (slice_set xs i x) k ≡ Some z) same e) in
        let had = slice_set-had xs i x z (subst (λ k. slice_get (slice_set xs i x) k ≡ Some z) same e) in
        subst (λ k. P (suc k) z y) (sym same) (subst (λ v. P (suc i) v y) is (here had.0 had.1))
    by false f = there j z (sym (slice_set-other xs i j x (λ same. eqb-false (suc j) (suc i) f (ap suc same))) ∙ e)

pub set_at-same : {X : Type 0} (f : ℕ → X) (i : ℕ) (x : X) → set_at f i x i ≡ x
set_at-same f i x = rw (eq-eqb i i refl) refl

pub AllExtend-refl : {X : Type 0} (f : ℕ → List X) → AllExtend f f
AllExtend-refl f i = Extends-refl (f i)

pub AllExtend-set_at : {X : Type 0} (f : ℕ → List X) (i : ℕ) (x : X) → AllExtend f (set_at f i (f i ++ x ∷ []))
AllExtend-set_at f i x = set_at-elim (λ j ys. Extends (f j) ys) f i _ (Extends-one (f i) x) (λ j. Extends-refl (f j))

-- ---- records of versions

changes_of-append : (xs ys : List AcceptedChange) → changes_of (xs ++ ys) ≡ changes_of xs ++ changes_of ys
changes_of-append [] ys = refl
changes_of-append (x ∷ xs) ys = ap (λ cs. x.change ∷ cs) (changes_of-append xs ys)

length-changes_of : (xs : List AcceptedChange) → length (changes_of xs) ≡ length xs
length-changes_of [] = refl
length-changes_of (x ∷ xs) = ap suc (length-changes_of xs)

-- more accepted changes leave the records at the versions that were there
pub records_of-more : (xs ys : List AcceptedChange) (v : ℕ) → Extends xs ys → v ≤ length xs → records_of ys v ≡ records_of xs v
records_of-more xs ys v more h =
    let within : v ≤ length (changes_of xs) = omega (arith, h, length-changes_of xs) in
    ap (λ (l : List AcceptedChange). records_of l v) more.1 ∙ ap (λ cs. after_changes no_records (take v cs)) (changes_of-append xs more.0)
    ∙ ap (after_changes no_records) (take-append-le v (changes_of xs) (changes_of more.0) within)

after_changes-last : (old : Records) (cs : List UserChange) (c : UserChange)
    → after_changes old (cs ++ c ∷ []) ≡ changed (after_changes old cs) c
after_changes-last old [] c = refl
after_changes-last old (x ∷ cs) c = after_changes-last (changed old x) cs c

changes_of-at : (xs : List AcceptedChange) (v : ℕ) (e : AcceptedChange) → slice_get xs v ≡ Some e
    → slice_get (changes_of xs) v ≡ Some e.change
changes_of-at [] v e h = cc
changes_of-at (x ∷ xs) zero e h = ap (option_map (λ (e : AcceptedChange). e.change)) h
changes_of-at (x ∷ xs) (suc v) e h = changes_of-at xs v e h

-- the records one version on are those after the change of that number
pub records_of-next : (xs : List AcceptedChange) (v : ℕ) (e : AcceptedChange) → item_at xs (suc v) ≡ Some e
    → records_of xs (v + 1) ≡ changed (records_of xs v) e.change
records_of-next xs v e h =
    let at = changes_of-at xs v e h in
    let within = slice_get_within (changes_of xs) v e.change at in
    let is = get_or_from_slice_get (changes_of xs) v e.change e.change at in
    ap (after_changes no_records) (take_more (changes_of xs) v e.change within ∙ ap (λ c. take v (changes_of xs) ++ c ∷ []) is)
    ∙ after_changes-last no_records (take v (changes_of xs)) e.change

-- the records after one more accepted change
pub records_of-one : (xs : List AcceptedChange) (e : AcceptedChange)
    → records_of (xs ++ e ∷ []) (length (xs ++ e ∷ [])) ≡ changed (records_of xs (length xs)) e.change
records_of-one xs e =
    ap (records_of (xs ++ e ∷ [])) (length-one xs e)
    ∙ records_of-next (xs ++ e ∷ []) (length xs) e (slice_get-end xs [] e)
    ∙ ap (λ (r : Records). changed r e.change) (records_of-more xs (xs ++ e ∷ []) (length xs) (Extends-one xs e) (omega arith))

pub or_left : (a b : Bool) → (a || b) ≡ false → a ≡ false
or_left true b e = cc
or_left false b e = refl
