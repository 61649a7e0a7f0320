-- The listings under a tail, after one is put in, and after those of a user's place are left out.
use Rattle.std.proofs.Common.{◌≡◌, ℕ, zero, suc, ◌-◌, ◌<◌, ◌≤◌, ◌==◌, nat_eq, nat_lt, inl, inr, ◌⊎◌, Bool, true, false, cond, not, ◌&&◌, ◌||◌, List, [], ◌∷◌}
use Rattle.std.proofs.Common.{◌++◌, drop, map, filter, length, refl, sym, ap, subst, ◌∙◌, arith, None, Some, slice_index, slice_set, true≢false}
use Rattle.std.specs.List.{list_any, AllByRecursion, IsDistinct}
use Rattle.std.specs.Map.{keys_of, lookup, set_value}
use Rattle.std.proofs.lemmas.Map.Keys.{IsDistinct-head, IsDistinct-tail}
use Rattle.std.specs.Cmp.Lexicographic.{pointwise, bytes_decides}
use Rattle.std.proofs.lemmas.Bool.{eqb-true}
use Rattle.std.proofs.lemmas.Bool.Decides.{nat_tests}
use Rattle.std.specs.Map.Calls.{RetainsPairs}
use Rattle.indexmap.specs.IndexMap.{insert_entry}
use Rattle.std.specs.declared.vec.Vec.{Vec}
use Rattle.std.specs.declared.alloc.Global.{Global}
use Rattle.userfile.specs.declared.index.Listing.{Listing}
use Rattle.wildmask.specs.Signatures.{Pairs, same_pairs}
use Rattle.wildmask.proofs.SignatureLemmas.{same_pairs-same}
use Rattle.userfile.specs.Index.{IsIn, listed, same_listing, moved_up, listings_at, listings_without}
use Rattle.userfile.proofs.RepeatLemmas.{and_true}

abbrev pub Group : Type 0
Group = List ℕ × Vec Listing Global

-- ---- listings in a list

pub IsIn-left : (n : Listing) (xs ys : List Listing) → IsIn n xs → IsIn n (xs ++ ys)
IsIn-left n [] ys h = absurd h
IsIn-left n (x ∷ xs) ys (inl same) = inl same
IsIn-left n (x ∷ xs) ys (inr later) = inr (IsIn-left n xs ys later)

pub IsIn-right : (n : Listing) (xs ys : List Listing) → IsIn n ys → IsIn n (xs ++ ys)
IsIn-right n [] ys h = h
IsIn-right n (x ∷ xs) ys h = inr (IsIn-right n xs ys h)

pub IsIn-drop : (x : Listing) (n : ℕ) (xs : List Listing) → IsIn x (drop n xs) → IsIn x xs
IsIn-drop x zero xs h = h
IsIn-drop x (suc n) [] h = h
IsIn-drop x (suc n) (y ∷ ys) h = inr (IsIn-drop x n ys h)

pub IsIn-last : (n : Listing) (xs : List Listing) → IsIn n (xs ++ n ∷ [])
IsIn-last n xs = IsIn-right n xs (n ∷ []) (inl refl)

-- a listing of a list is one of a list that isn't empty
not_empty : (n : Listing) (xs : List Listing) → IsIn n xs → not (length xs == 0) ≡ true
not_empty n [] h = absurd h
not_empty n (x ∷ xs) h = by (length (x ∷ xs) == 0) refl
  where
    by : (b : Bool) → (length (x ∷ xs) == 0) ≡ b → not b ≡ true
    by true e = absurd (omega (arith, eqb-true (length (x ∷ xs)) 0 e))
    by false e = refl

pub IsIn-split : (n : Listing) (xs ys : List Listing) → IsIn n (xs ++ ys) → IsIn n xs ⊎ IsIn n ys
IsIn-split n [] ys h = inr h
IsIn-split n (x ∷ xs) ys (inl same) = inl (inl same)
IsIn-split n (x ∷ xs) ys (inr later) = elim (IsIn-split n xs ys later) [ inl left ↦ inl (inr left) | inr right ↦ inr right ]

pub IsIn-one : (n x : Listing) → IsIn n (x ∷ []) → n ≡ x
IsIn-one n x (inl same) = sym same
IsIn-one n x (inr later) = absurd later

pub same_is : (x y : Listing) → same_listing x y ≡ true → y ≡ x
same_is x y e =
    let parts : (((x.place == y.place) && (x.literals == y.literals)) ≡ true) × (same_pairs x.pairs y.pairs ≡ true) = and_true e in
    let more : ((x.place == y.place) ≡ true) × ((x.literals == y.literals) ≡ true) = and_true parts.0 in
    sym (ap (λ k. listed k x.literals x.pairs) (eqb-true x.place y.place more.0)
    ∙ ap (λ k. listed y.place k x.pairs) (eqb-true x.literals y.literals more.1)
    ∙ ap (λ k. listed y.place y.literals k) (same_pairs-same x.pairs y.pairs parts.1))

-- what a test finds is there
pub IsIn-found : (x : Listing) (xs : List Listing) → list_any (same_listing x) xs ≡ true → IsIn x xs
IsIn-found x [] e = cc
IsIn-found x (y ∷ ys) e = by (same_listing x y) refl e (λ f. IsIn-found x ys f)
  where
    by : (b : Bool) → same_listing x y ≡ b → (b || list_any (same_listing x) ys) ≡ true → (list_any (same_listing x) ys ≡ true → IsIn x ys) → IsIn x (y ∷ ys)
    by true same e rest = inl (same_is x y same)
    by false other e rest = inr (rest e)

-- what a filter keeps was there and passes, and what was there and passes is kept
pub IsIn-filter : (p : Listing → Bool) (x : Listing) (xs : List Listing) → IsIn x xs → p x ≡ true → IsIn x (filter p xs)
IsIn-filter p x [] h e = absurd h
IsIn-filter p x (y ∷ ys) h e = by (p y) refl h (λ i. IsIn-filter p x ys i e)
  where
    by : (b : Bool) → p y ≡ b → IsIn x (y ∷ ys) → (IsIn x ys → IsIn x (filter p ys)) → IsIn x (cond b (y ∷ filter p ys) (filter p ys))
    by true f (inl same) rest = inl same
    by true f (inr later) rest = inr (rest later)
    by false f (inl same) rest = absurd (true≢false (sym e ∙ ap p (sym same) ∙ f))
    by false f (inr later) rest = rest later

pub filter-IsIn : (p : Listing → Bool) (x : Listing) (xs : List Listing) → IsIn x (filter p xs) → IsIn x xs × (p x ≡ true)
filter-IsIn p x [] h = absurd h
filter-IsIn p x (y ∷ ys) h = by (p y) refl h (λ i. filter-IsIn p x ys i)
  where
    later : IsIn x ys × (p x ≡ true) → IsIn x (y ∷ ys) × (p x ≡ true)
    later r = (inr r.0, r.1)

    by : (b : Bool) → p y ≡ b → IsIn x (cond b (y ∷ filter p ys) (filter p ys)) → (IsIn x (filter p ys) → IsIn x ys × (p x ≡ true))
        → IsIn x (y ∷ ys) × (p x ≡ true)
    by true f (inl same) rest = (inl same, ap p (sym same) ∙ f)
    by true f (inr in_rest) rest = later (rest in_rest)
    by false f h rest = later (rest h)

-- what a map makes is made of something
pub map-IsIn : (f : Listing → Listing) (x : Listing) (xs : List Listing) → IsIn x (map f xs) → (y : Listing) × (IsIn y xs × (f y ≡ x))
map-IsIn f x [] h = absurd h
map-IsIn f x (y ∷ ys) (inl same) = (y, (inl refl, same))
map-IsIn f x (y ∷ ys) (inr later) = let r = map-IsIn f x ys later in (r.0, (inr r.1.0, r.1.1))

-- writing a one leaves the ones
pub set_one : (xs : List ℕ) (i j : ℕ) → slice_index xs j ≡ 1 → slice_index (slice_set xs i 1) j ≡ 1
set_one [] i j e = cc
set_one (x ∷ xs) zero zero e = refl
set_one (x ∷ xs) zero (suc j) e = e
set_one (x ∷ xs) (suc i) zero e = e
set_one (x ∷ xs) (suc i) (suc j) e = set_one xs i j e

-- ---- one group written

-- what was under a tail still is, where the group only grew
pub listings_at-set_value : (t tail : List ℕ) (es : List Group) (v w : Vec Listing Global) → lookup (λ k. pointwise nat_eq tail k) es ≡ Some v
    → ((n : Listing) → IsIn n v.items → IsIn n w.items)
    → (n : Listing) → IsIn n (listings_at t es) → IsIn n (listings_at t (set_value (λ k. pointwise nat_eq tail k) es w))
listings_at-set_value t tail [] v w found grew n h = absurd h
listings_at-set_value t tail (e ∷ es) v w found grew n h =
    by (pointwise nat_eq tail e.0) found (λ f. listings_at-set_value t tail es v w f grew n)
  where
    here : e.1 ≡ v → (s : Bool) → IsIn n (cond s e.1.items (listings_at t es)) → IsIn n (cond s w.items (listings_at t es))
    here same true i = grew n (subst (λ (g : Vec Listing Global). IsIn n g.items) same i)
    here same false i = i

    there : (IsIn n (listings_at t es) → IsIn n (listings_at t (set_value (λ k. pointwise nat_eq tail k) es w))) → (s : Bool)
        → IsIn n (cond s e.1.items (listings_at t es))
        → IsIn n (cond s e.1.items (listings_at t (set_value (λ k. pointwise nat_eq tail k) es w)))
    there rest true i = i
    there rest false i = rest i

    by : (b : Bool) → cond b (Some e.1) (lookup (λ k. pointwise nat_eq tail k) es) ≡ Some v
        → (lookup (λ k. pointwise nat_eq tail k) es ≡ Some v → IsIn n (listings_at t es)
        → IsIn n (listings_at t (set_value (λ k. pointwise nat_eq tail k) es w)))
        → IsIn n (listings_at t (cond b ((e.0, w) ∷ es) (e ∷ set_value (λ k. pointwise nat_eq tail k) es w)))
    by true f rest = let same : e.1 ≡ v = cc in here same (pointwise nat_eq t e.0) h
    by false f rest = there (rest f) (pointwise nat_eq t e.0) h

-- and what is under a tail was there, or was put into the group of this one
pub set_value-listings_at : (P : Listing → Type 0) (t tail : List ℕ) (es : List Group) (v w : Vec Listing Global)
    → lookup (λ k. pointwise nat_eq tail k) es ≡ Some v
    → ((n : Listing) → IsIn n w.items → IsIn n v.items ⊎ P n)
    → (n : Listing) → IsIn n (listings_at t (set_value (λ k. pointwise nat_eq tail k) es w)) → IsIn n (listings_at t es) ⊎ ((t ≡ tail) × P n)
set_value-listings_at P t tail [] v w found grew n h = cc
set_value-listings_at P t tail (e ∷ es) v w found grew n h =
    by (pointwise nat_eq tail e.0) refl found h (λ f i. set_value-listings_at P t tail es v w f grew n i)
  where
    here : e.1 ≡ v → pointwise nat_eq tail e.0 ≡ true → (s : Bool) → pointwise nat_eq t e.0 ≡ s → IsIn n (cond s w.items (listings_at t es))
        → IsIn n (cond s e.1.items (listings_at t es)) ⊎ ((t ≡ tail) × P n)
    here same at true of i = elim (grew n i) [
      | inl before ↦ inl (subst (λ (g : Vec Listing Global). IsIn n g.items) (sym same) before)
      | inr new ↦ inr ((bytes_decides t e.0).0 of ∙ sym ((bytes_decides tail e.0).0 at), new)
    ]
    here same at false of i = inl i

    there : (IsIn n (listings_at t (set_value (λ k. pointwise nat_eq tail k) es w)) → IsIn n (listings_at t es) ⊎ ((t ≡ tail) × P n)) → (s : Bool)
        → IsIn n (cond s e.1.items (listings_at t (set_value (λ k. pointwise nat_eq tail k) es w)))
        → IsIn n (cond s e.1.items (listings_at t es)) ⊎ ((t ≡ tail) × P n)
    there rest true i = inl i
    there rest false i = rest i

    by : (b : Bool) → pointwise nat_eq tail e.0 ≡ b → cond b (Some e.1) (lookup (λ k. pointwise nat_eq tail k) es) ≡ Some v
        → IsIn n (listings_at t (cond b ((e.0, w) ∷ es) (e ∷ set_value (λ k. pointwise nat_eq tail k) es w)))
        → (lookup (λ k. pointwise nat_eq tail k) es ≡ Some v → IsIn n (listings_at t (set_value (λ k. pointwise nat_eq tail k) es w))
        → IsIn n (listings_at t es) ⊎ ((t ≡ tail) × P n))
        → IsIn n (listings_at t (e ∷ es)) ⊎ ((t ≡ tail) × P n)
    by true at f i rest = let same : e.1 ≡ v = cc in here same at (pointwise nat_eq t e.0) refl i
    by false at f i rest = there (rest f) (pointwise nat_eq t e.0) i

-- and the tail's places are those of the group that was written
pub listings_at-written : (tail : List ℕ) (es : List Group) (v w : Vec Listing Global) → lookup (λ k. pointwise nat_eq tail k) es ≡ Some v
    → listings_at tail (set_value (λ k. pointwise nat_eq tail k) es w) ≡ w.items
listings_at-written tail [] v w found = cc
listings_at-written tail (e ∷ es) v w found = by (pointwise nat_eq tail e.0) refl found (listings_at-written tail es v w)
  where
    by : (b : Bool) → pointwise nat_eq tail e.0 ≡ b → cond b (Some e.1) (lookup (λ k. pointwise nat_eq tail k) es) ≡ Some v
        → (lookup (λ k. pointwise nat_eq tail k) es ≡ Some v → listings_at tail (set_value (λ k. pointwise nat_eq tail k) es w) ≡ w.items)
        → listings_at tail (cond b ((e.0, w) ∷ es) (e ∷ set_value (λ k. pointwise nat_eq tail k) es w)) ≡ w.items
    by true e' f rest = ap (λ s. cond s w.items (listings_at tail es)) e'
    by false e' f rest = ap (λ s. cond s e.1.items (listings_at tail (set_value (λ k. pointwise nat_eq tail k) es w))) e' ∙ rest f

-- the places of a tail are those of the group that a look-up finds
pub listings_at-found : (tail : List ℕ) (es : List Group) (v : Vec Listing Global) → lookup (λ k. pointwise nat_eq tail k) es ≡ Some v
    → listings_at tail es ≡ v.items
listings_at-found tail [] v found = cc
listings_at-found tail (e ∷ es) v found = by (pointwise nat_eq tail e.0) found (listings_at-found tail es v)
  where
    by : (b : Bool) → cond b (Some e.1) (lookup (λ k. pointwise nat_eq tail k) es) ≡ Some v
        → (lookup (λ k. pointwise nat_eq tail k) es ≡ Some v → listings_at tail es ≡ v.items) → cond b e.1.items (listings_at tail es) ≡ v.items
    by true f rest = let same : e.1 ≡ v = cc in ap (λ (g : Vec Listing Global). g.items) same
    by false f rest = rest f

pub listings_at-none : (tail : List ℕ) (es : List Group) → lookup (λ k. pointwise nat_eq tail k) es ≡ None → listings_at tail es ≡ []
listings_at-none tail [] none = refl
listings_at-none tail (e ∷ es) none = by (pointwise nat_eq tail e.0) none (listings_at-none tail es)
  where
    by : (b : Bool) → cond b (Some e.1) (lookup (λ k. pointwise nat_eq tail k) es) ≡ None
        → (lookup (λ k. pointwise nat_eq tail k) es ≡ None → listings_at tail es ≡ []) → cond b e.1.items (listings_at tail es) ≡ []
    by true f rest = cc
    by false f rest = rest f

-- ---- a group put in, where its tail had none

pub listings_at-insert : (t tail : List ℕ) (es : List Group) (v : Vec Listing Global) → lookup (λ k. pointwise nat_eq tail k) es ≡ None → (n : Listing)
    → IsIn n (listings_at t es) → IsIn n (listings_at t (insert_entry (pointwise nat_eq) es tail v))
listings_at-insert t tail [] v none n h = absurd h
listings_at-insert t tail (e ∷ es) v none n h = by (pointwise nat_eq tail e.0) none (λ f. listings_at-insert t tail es v f n)
  where
    there : (IsIn n (listings_at t es) → IsIn n (listings_at t (insert_entry (pointwise nat_eq) es tail v))) → (s : Bool)
        → IsIn n (cond s e.1.items (listings_at t es)) → IsIn n (cond s e.1.items (listings_at t (insert_entry (pointwise nat_eq) es tail v)))
    there rest true i = i
    there rest false i = rest i

    by : (b : Bool) → cond b (Some e.1) (lookup (λ k. pointwise nat_eq tail k) es) ≡ None
        → (lookup (λ k. pointwise nat_eq tail k) es ≡ None → IsIn n (listings_at t es) → IsIn n (listings_at t (insert_entry (pointwise nat_eq) es tail v)))
        → IsIn n (listings_at t (cond b ((e.0, v) ∷ es) (e ∷ insert_entry (pointwise nat_eq) es tail v)))
    by true f rest = cc
    by false f rest = there (rest f) (pointwise nat_eq t e.0) h

pub listings_at-inserted : (tail : List ℕ) (es : List Group) (v : Vec Listing Global) → lookup (λ k. pointwise nat_eq tail k) es ≡ None
    → listings_at tail (insert_entry (pointwise nat_eq) es tail v) ≡ v.items
listings_at-inserted tail [] v none = ap (λ s. cond s v.items []) ((bytes_decides tail tail).1 refl)
listings_at-inserted tail (e ∷ es) v none = by (pointwise nat_eq tail e.0) refl none (listings_at-inserted tail es v)
  where
    by : (b : Bool) → pointwise nat_eq tail e.0 ≡ b → cond b (Some e.1) (lookup (λ k. pointwise nat_eq tail k) es) ≡ None
        → (lookup (λ k. pointwise nat_eq tail k) es ≡ None → listings_at tail (insert_entry (pointwise nat_eq) es tail v) ≡ v.items)
        → listings_at tail (cond b ((e.0, v) ∷ es) (e ∷ insert_entry (pointwise nat_eq) es tail v)) ≡ v.items
    by true e' f rest = cc
    by false e' f rest = ap (λ s. cond s e.1.items (listings_at tail (insert_entry (pointwise nat_eq) es tail v))) e' ∙ rest f

pub insert-listings_at : (t tail : List ℕ) (es : List Group) (v : Vec Listing Global) → lookup (λ k. pointwise nat_eq tail k) es ≡ None → (n : Listing)
    → IsIn n (listings_at t (insert_entry (pointwise nat_eq) es tail v)) → IsIn n (listings_at t es) ⊎ ((t ≡ tail) × IsIn n v.items)
insert-listings_at t tail [] v none n h = by (pointwise nat_eq t tail) refl h
  where
    by : (s : Bool) → pointwise nat_eq t tail ≡ s → IsIn n (cond s v.items []) → ⊥ ⊎ ((t ≡ tail) × IsIn n v.items)
    by true at i = inr ((bytes_decides t tail).0 at, i)
    by false at i = absurd i
insert-listings_at t tail (e ∷ es) v none n h = by (pointwise nat_eq tail e.0) none h (λ f i. insert-listings_at t tail es v f n i)
  where
    there : (IsIn n (listings_at t (insert_entry (pointwise nat_eq) es tail v)) → IsIn n (listings_at t es) ⊎ ((t ≡ tail) × IsIn n v.items)) → (s : Bool)
        → IsIn n (cond s e.1.items (listings_at t (insert_entry (pointwise nat_eq) es tail v)))
        → IsIn n (cond s e.1.items (listings_at t es)) ⊎ ((t ≡ tail) × IsIn n v.items)
    there rest true i = inl i
    there rest false i = rest i

    by : (b : Bool) → cond b (Some e.1) (lookup (λ k. pointwise nat_eq tail k) es) ≡ None
        → IsIn n (listings_at t (cond b ((e.0, v) ∷ es) (e ∷ insert_entry (pointwise nat_eq) es tail v)))
        → (lookup (λ k. pointwise nat_eq tail k) es ≡ None → IsIn n (listings_at t (insert_entry (pointwise nat_eq) es tail v))
        → IsIn n (listings_at t es) ⊎ ((t ≡ tail) × IsIn n v.items))
        → IsIn n (listings_at t (e ∷ es)) ⊎ ((t ≡ tail) × IsIn n v.items)
    by true f i rest = cc
    by false f i rest = there (rest f) (pointwise nat_eq t e.0) i

-- ---- a user's place left out of all groups

-- the places before the one that goes stay
moved_stays : (place n l : ℕ) (s : Pairs) → n < place → moved_up place (listed n l s) ≡ listed n l s
moved_stays place n l s lt = let test : nat_lt place n ≡ false = grind (arith, nat_tests) in ap (λ b. listed (cond b (n - 1) n) l s) test

-- and those after it move up
moved_moves : (place n l : ℕ) (s : Pairs) → place ≤ n → moved_up place (listed (suc n) l s) ≡ listed n l s
moved_moves place n l s le =
    let test : nat_lt place (suc n) ≡ true = grind (arith, nat_tests) in
    let less : suc n - 1 ≡ n = omega arith in
    ap (λ b. listed (cond b (suc n - 1) (suc n)) l s) test ∙ ap (λ k. listed k l s) less

-- a listing of another place is left, moved
left_without : (place : ℕ) (x : Listing) (xs : List Listing) → (x.place == place) ≡ false → IsIn x xs → IsIn (moved_up place x) (listings_without place xs)
left_without place x [] other h = absurd h
left_without place x (y ∷ xs) other h = by (y.place == place) refl h (left_without place x xs other)
  where
    by : (b : Bool) → (y.place == place) ≡ b → IsIn x (y ∷ xs) → (IsIn x xs → IsIn (moved_up place x) (listings_without place xs))
        → IsIn (moved_up place x)
        (map (moved_up place) (cond (not b) (y ∷ filter (λ z. not (z.place == place)) xs) (filter (λ z. not (z.place == place)) xs)))
    by true e (inl same) rest = absurd (true≢false (sym e ∙ ap (λ (z : Listing). z.place == place) same ∙ other))
    by true e (inr later) rest = rest later
    by false e (inl same) rest = inl (ap (moved_up place) same)
    by false e (inr later) rest = inr (rest later)

other_place : (n place : ℕ) → ((n ≡ place) → ⊥) → (n == place) ≡ false
other_place n place not_same = by (n == place) refl
  where
    by : (b : Bool) → (n == place) ≡ b → b ≡ false
    by true e = absurd (not_same (eqb-true n place e))
    by false e = refl

pub stays_in : (place n l : ℕ) (s : Pairs) (xs : List Listing) → n < place → IsIn (listed n l s) xs → IsIn (listed n l s) (listings_without place xs)
stays_in place n l s xs lt h = subst (λ x. IsIn x (listings_without place xs)) (moved_stays place n l s lt)
    (left_without place (listed n l s) xs (other_place n place (λ same. omega (arith, same, lt))) h)

pub moves_in : (place n l : ℕ) (s : Pairs) (xs : List Listing) → place ≤ n → IsIn (listed (suc n) l s) xs → IsIn (listed n l s) (listings_without place xs)
moves_in place n l s xs le h = subst (λ x. IsIn x (listings_without place xs)) (moved_moves place n l s le)
    (left_without place (listed (suc n) l s) xs (other_place (suc n) place (λ same. omega (arith, same, le))) h)

pub left_from : (place : ℕ) (x : Listing) (xs : List Listing) → IsIn x (listings_without place xs)
    → (y : Listing) × (IsIn y xs × (((y.place == place) ≡ false) × (moved_up place y ≡ x)))
left_from place x xs h =
    let moved = map-IsIn (moved_up place) x (filter (λ z. not (z.place == place)) xs) h in
    let kept = filter-IsIn (λ z. not (z.place == place)) moved.0 xs moved.1.0 in
    (moved.0, (kept.0, (no (moved.0.place == place) kept.1, moved.1.1)))
  where
    no : (b : Bool) → not b ≡ true → b ≡ false
    no true e = cc
    no false e = refl

-- where no other group has a tail, nothing stands under it
none_later : (t k : List ℕ) (es : List Group) → t ≡ k → AllByRecursion (λ y. pointwise nat_eq k y ≡ false) (keys_of es) → listings_at t es ≡ []
none_later t k [] same none = refl
none_later t k (e ∷ es) same none = ap (λ b. cond b e.1.items (listings_at t es)) (ap (λ q. pointwise nat_eq q e.0) same ∙ none.0)
    ∙ none_later t k es same none.1

-- what `retain` leaves of all groups, where the closure makes the same of each by its tail and drops the empty ones
module _ {F : Type 0} (T : F → List ℕ → Vec Listing Global → Bool → Vec Listing Global → F → Type 0) (made : List ℕ → List Listing → List Listing) (f : F)
    (says : (k : List ℕ) (v : Vec Listing Global) (b : Bool) (w : Vec Listing Global) (g : F) → T f k v b w g
    → ((b ≡ not (length w.items == 0)) × (w.items ≡ made k v.items)) × (g ≡ f)) (t : List ℕ) where
  pub left_in : (m n : Listing) → ((xs : List Listing) → IsIn m xs → IsIn n (made t xs)) → (es kept : List Group)
      → RetainsPairs T f es kept → IsIn m (listings_at t es) → IsIn n (listings_at t kept)
  left_in m n moves [] kept h i = absurd i
  left_in m n moves (e ∷ es) kept h i =
      let s = says e.0 e.1 h.0 h.1 h.2 h.4 in
      by s.0 (pointwise nat_eq t e.0) refl i (left_in m n moves es h.3 (subst (λ g. RetainsPairs T g es h.3) s.1 h.5))
    where
      there : (IsIn n (listings_at t h.3)) → (b : Bool) → pointwise nat_eq t e.0 ≡ false → IsIn n (listings_at t (cond b ((e.0, h.1) ∷ h.3) h.3))
      there j true off = subst (λ c. IsIn n (cond c h.1.items (listings_at t h.3))) (sym off) j
      there j false off = j

      here : h.0 ≡ not (length h.1.items == 0) → IsIn n h.1.items → pointwise nat_eq t e.0 ≡ true → IsIn n (listings_at t (cond h.0 ((e.0, h.1) ∷ h.3) h.3))
      here kept_if j on =
          let some : h.0 ≡ true = kept_if ∙ not_empty n h.1.items j in
          subst (λ b. IsIn n (listings_at t (cond b ((e.0, h.1) ∷ h.3) h.3))) (sym some) (subst (λ c. IsIn n (cond c h.1.items (listings_at t h.3))) (sym on) j)

      by : ((h.0 ≡ not (length h.1.items == 0)) × (h.1.items ≡ made e.0 e.1.items)) → (c : Bool) → pointwise nat_eq t e.0 ≡ c
          → IsIn m (cond c e.1.items (listings_at t es)) → (IsIn m (listings_at t es) → IsIn n (listings_at t h.3)) → IsIn n (listings_at t kept)
      by s true on j rest = subst (λ ks. IsIn n (listings_at t ks)) (sym h.6)
          (here s.0 (subst (IsIn n) (sym (s.1 ∙ ap (λ k. made k e.1.items) (sym ((bytes_decides t e.0).0 on)))) (moves e.1.items j)) on)
      by s false off j rest = subst (λ ks. IsIn n (listings_at t ks)) (sym h.6) (there (rest j) h.0 off)

  pub left_was : (P : Listing → Listing → Type 0) (n : Listing) → ((xs : List Listing) → IsIn n (made t xs) → (m : Listing) × (IsIn m xs × P m n))
      → (es kept : List Group) → IsDistinct (pointwise nat_eq) (keys_of es) → RetainsPairs T f es kept → IsIn n (listings_at t kept)
      → (m : Listing) × (IsIn m (listings_at t es) × P m n)
  left_was P n back [] kept distinct h i = absurd (subst (λ ks. IsIn n (listings_at t ks)) h i)
  left_was P n back (e ∷ es) kept distinct h i =
      let s = says e.0 e.1 h.0 h.1 h.2 h.4 in
      let rest = left_was P n back es h.3 (IsDistinct-tail (pointwise nat_eq) e.0 (keys_of es) distinct) (subst (λ g. RetainsPairs T g es h.3) s.1 h.5) in
      by s.0.1 (pointwise nat_eq t e.0) refl h.0 (subst (λ ks. IsIn n (listings_at t ks)) h.6 i) rest
    where
      by : h.1.items ≡ made e.0 e.1.items → (c : Bool) → pointwise nat_eq t e.0 ≡ c → (b : Bool)
          → IsIn n (listings_at t (cond b ((e.0, h.1) ∷ h.3) h.3))
          → (IsIn n (listings_at t h.3) → (m : Listing) × (IsIn m (listings_at t es) × P m n))
          → (m : Listing) × (IsIn m (cond c e.1.items (listings_at t es)) × P m n)
      by is true on true j rest = back e.1.items
          (subst (IsIn n) (is ∙ ap (λ k. made k e.1.items) (sym ((bytes_decides t e.0).0 on)))
          (subst (λ c. IsIn n (cond c h.1.items (listings_at t h.3))) on j))
      by is true on false j rest = let r = rest j in
          absurd (subst (IsIn r.0) (none_later t e.0 es ((bytes_decides t e.0).0 on) (IsDistinct-head (pointwise nat_eq) e.0 (keys_of es) distinct)) r.1.0)
      by is false off true j rest = rest (subst (λ c. IsIn n (cond c h.1.items (listings_at t h.3))) off j)
      by is false off false j rest = rest j
