-- Each listing of the index is that of a mask of its user, before and after each change.
use Rattle.std.proofs.Common.{◌≡◌, ℕ, zero, suc, ◌+◌, ◌-◌, ◌<◌, ◌≤◌, ◌==◌, nat_eq, nat_lt, inl, inr, Bool, true, false, cond, not, ◌||◌, ◌&&◌}
use Rattle.std.proofs.Common.{List, [], ◌∷◌, ◌++◌, length, refl, sym, ap, subst, ◌∙◌, arith, None, Some, slice_get}
use Rattle.std.proofs.Common.{get_or, slice_index, true≢false, ltb-true, ltb-false}
use Rattle.std.specs.List.{position_from}
use Rattle.std.specs.Cmp.Lexicographic.{pointwise, bytes_decides}
use Rattle.std.proofs.lemmas.Bool.{cases_lt, eqb-true, or_left, or_right}
use Rattle.std.proofs.lemmas.Bool.Decides.{Decides-eqb}
use Rattle.std.proofs.lemmas.List.Folds.{list_any_at, list_any-append}
use Rattle.rfccase.specs.Casemapping.{is_same}
use Rattle.userfile.specs.declared.user.User.{User}
use Rattle.userfile.specs.declared.index.Listing.{Listing}
use Rattle.userfile.specs.declared.index.TailIndex.{TailIndex}
use Rattle.userfile.specs.declared.user_edits.UserEdit.{UserEdit}
use Rattle.userfile.specs.declared.user_edits.UserEdit.TheVariants.{DelMask, SetGlobal, DelChannel, SetChannels, SetBot, SetInfo}
use Rattle.userfile.specs.Apply.{with_mask, without_mask}
use Rattle.userfile.specs.UserEdits.{edited, is_of_masks}
use Rattle.userfile.specs.Held.{with_user, users_without}
use Rattle.wildmask.proofs.SignatureLemmas.{same_pairs-self}
use Rattle.userfile.specs.Hostmasks.{literals, mask_tail, mask_pairs}
use Rattle.userfile.specs.Together.{repeats_handle}
use Rattle.userfile.specs.Index.{listing_of, listings_at, is_of, is_listed, masks_of, masks_at, moved_up, stays, IsIn, IsUnder, AreUnder, Covers}
use Rattle.userfile.specs.Index.{Keeps, Names, NamesBut}
use Rattle.userfile.specs.Index.{IsIndexOf, AddsOnly, AddsNothing, LeavesListed, LeavesOut}
use Rattle.userfile.proofs.RepeatLemmas.{and_both, or_false}
use Rattle.userfile.proofs.IndexLemmas.{Covers-masks, Covers-push, Covers-keeps, Covers-with_mask, Covers-without}
use Rattle.userfile.proofs.IndexLemmas.{users_without-absent, absent-like, position-above}

-- ---- one mask among a user's

-- a mask is listed among masks that have it
own : (n : ℕ) (m : List ℕ) → (is_of (listing_of n m) m && pointwise nat_eq (mask_tail m) (mask_tail m)) ≡ true
own n m = and_both (and_both ((Decides-eqb (literals m) (literals m)).1 refl) (same_pairs-self (mask_pairs m)))
    ((bytes_decides (mask_tail m) (mask_tail m)).1 refl)

pub listed_at : (n : ℕ) (m : List ℕ) (ms : List (List ℕ)) (i : ℕ) → i < length ms → m ≡ get_or ms i m
    → is_listed (mask_tail m) (listing_of n m) ms ≡ true
listed_at n m ms i lt at = list_any_at (λ k. is_of (listing_of n m) k && pointwise nat_eq (mask_tail m) (mask_tail k)) ms i m lt
    (ap (λ k. is_of (listing_of n m) k && pointwise nat_eq (mask_tail m) (mask_tail k)) (sym at) ∙ own n m)

listed_push : (t : List ℕ) (x : Listing) (ms : List (List ℕ)) (m : List ℕ) → is_listed t x ms ≡ true → is_listed t x (ms ++ m ∷ []) ≡ true
listed_push t x ms m e = list_any-append (λ k. is_of x k && pointwise nat_eq t (mask_tail k)) ms (m ∷ []) ∙ or_left _ _ e

listed_last : (n : ℕ) (ms : List (List ℕ)) (m : List ℕ) → is_listed (mask_tail m) (listing_of n m) (ms ++ m ∷ []) ≡ true
listed_last n ms m = list_any-append (λ k. is_of (listing_of n m) k && pointwise nat_eq (mask_tail m) (mask_tail k)) ms (m ∷ [])
    ∙ or_right _ _ (or_left _ _ (own n m))

-- ---- the masks at a place, after a change

pub masks_at-push : (us : List User) (u : User) (n : ℕ) → u.masks ≡ [] → masks_at (us ++ u ∷ []) n ≡ masks_at us n
masks_at-push [] u zero none = none
masks_at-push [] u (suc n) none = refl
masks_at-push (x ∷ us) u zero none = refl
masks_at-push (x ∷ us) u (suc n) none = masks_at-push us u n none

module _ (h : List ℕ) (edit : User → User) where
  masks_at-same : ((u : User) → (edit u).masks ≡ u.masks) → (us : List User) (n : ℕ) → masks_at (with_user h edit us) n ≡ masks_at us n
  masks_at-same same [] n = refl
  masks_at-same same (x ∷ us) n = by (is_same h x.handle) n (masks_at-same same us)
    where
      by : (b : Bool) (k : ℕ) → ((j : ℕ) → masks_at (with_user h edit us) j ≡ masks_at us j)
          → masks_at (cond b (edit x ∷ us) (x ∷ with_user h edit us)) k ≡ masks_at (x ∷ us) k
      by true zero rest = same x
      by true (suc k) rest = refl
      by false zero rest = refl
      by false (suc k) rest = rest k

  -- of another user than the one who is edited
  masks_at-other : (us : List User) (k p n : ℕ) → position_from (λ (x : User). is_same h x.handle) k us ≡ Some p → ((n + k ≡ p) → ⊥)
      → masks_at (with_user h edit us) n ≡ masks_at us n
  masks_at-other [] k p n at other = refl
  masks_at-other (x ∷ us) k p n at other = by (is_same h x.handle) at n other (λ g i o. masks_at-other us (k + 1) p i g o)
    where
      by : (b : Bool) → cond b (Some k) (position_from (λ (y : User). is_same h y.handle) (k + 1) us) ≡ Some p → (i : ℕ) → ((i + k ≡ p) → ⊥)
          → (position_from (λ (y : User). is_same h y.handle) (k + 1) us ≡ Some p → (j : ℕ) → ((j + (k + 1) ≡ p) → ⊥)
          → masks_at (with_user h edit us) j ≡ masks_at us j)
          → masks_at (cond b (edit x ∷ us) (x ∷ with_user h edit us)) i ≡ masks_at (x ∷ us) i
      by true at zero other rest = let here : k ≡ p = cc in absurd (other (omega (arith, here)))
      by true at (suc i) other rest = refl
      by false at zero other rest = refl
      by false at (suc i) other rest = rest at i (λ same. other (omega (arith, same)))

  -- of the one who is edited
  masks_at-edited : (us : List User) (k p n : ℕ) → position_from (λ (x : User). is_same h x.handle) k us ≡ Some p → n + k ≡ p
      → (u : User) × ((slice_get us n ≡ Some u) × (masks_at (with_user h edit us) n ≡ (edit u).masks))
  masks_at-edited [] k p n at here = cc
  masks_at-edited (x ∷ us) k p n at here = by (is_same h x.handle) at n here (λ g i o. masks_at-edited us (k + 1) p i g o)
    where
      by : (b : Bool) → cond b (Some k) (position_from (λ (y : User). is_same h y.handle) (k + 1) us) ≡ Some p → (i : ℕ) → i + k ≡ p
          → (position_from (λ (y : User). is_same h y.handle) (k + 1) us ≡ Some p → (j : ℕ) → j + (k + 1) ≡ p
          → (u : User) × ((slice_get us j ≡ Some u) × (masks_at (with_user h edit us) j ≡ (edit u).masks)))
          → (u : User) × ((slice_get (x ∷ us) i ≡ Some u) × (masks_at (cond b (edit x ∷ us) (x ∷ with_user h edit us)) i ≡ (edit u).masks))
      by true at zero here rest = (x, (refl, refl))
      by true at (suc i) here rest = let first : k ≡ p = cc in absurd (omega (arith, first, here))
      by false at zero here rest = let later : k + 1 ≤ p = position-above h us (k + 1) p at in absurd (omega (arith, here, later))
      by false at (suc i) here rest = rest at i (omega (arith, here))

  pub with_user-nobody : (us : List User) (k : ℕ) → position_from (λ (x : User). is_same h x.handle) k us ≡ None → with_user h edit us ≡ us
  with_user-nobody [] k at = refl
  with_user-nobody (x ∷ us) k at = by (is_same h x.handle) at (λ g. with_user-nobody us (k + 1) g)
    where
      by : (b : Bool) → cond b (Some k) (position_from (λ (y : User). is_same h y.handle) (k + 1) us) ≡ None
          → (position_from (λ (y : User). is_same h y.handle) (k + 1) us ≡ None → with_user h edit us ≡ us)
          → cond b (edit x ∷ us) (x ∷ with_user h edit us) ≡ x ∷ us
      by true at rest = cc
      by false at rest = ap (λ vs. x ∷ vs) (rest at)

-- ---- names kept

pub Names-users : (index : TailIndex) (old new : List User) → ((n : ℕ) → masks_at new n ≡ masks_at old n) → Names index old → Names index new
Names-users index old new same names t x i = ap (is_listed t x) (same x.place) ∙ names t x i

pub Names-groups : (old new : TailIndex) (users : List User) → AddsNothing old.groups.entries new.groups.entries → Names old users → Names new users
Names-groups old new users nothing names t x i = names t x (nothing t x i)

-- one more listing, of a mask that its user has
pub Names-added : (old new : TailIndex) (users : List User) (n : ℕ) (m : List ℕ) → AddsOnly old.groups.entries new.groups.entries (mask_tail m) (listing_of n m)
    → is_listed (mask_tail m) (listing_of n m) (masks_at users n) ≡ true → Names old users → Names new users
Names-added old new users n m only has names t x i = elim (only t x i) [
  | inl before ↦ names t x before
  | inr added ↦ ap (λ (y : Listing). is_listed t y (masks_at users y.place)) added.1 ∙ ap (λ k. is_listed k (listing_of n m) (masks_at users n)) added.0 ∙ has
]

-- an edit that isn't of masks
pub IsIndexOf-edited : (index : TailIndex) (h : List ℕ) (edit : User → User) → ((u : User) → (edit u).masks ≡ u.masks) → (us : List User)
    → IsIndexOf index us → IsIndexOf index (with_user h edit us)
IsIndexOf-edited index h edit same us is = record {
  covers = Covers-masks index h edit same us 0 is.covers;
  names = Names-users index us (with_user h edit us) (masks_at-same h edit same us) is.names;
}

pub edited_same : (index : TailIndex) (h : List ℕ) (edit : UserEdit) → is_of_masks edit ≡ false → (us : List User) → IsIndexOf index us
    → IsIndexOf index (with_user h (edited edit) us)
edited_same index h (DelMask m) other us is = absurd (true≢false other)
edited_same index h (SetGlobal f) other us is = IsIndexOf-edited index h (edited (SetGlobal f)) (λ u. refl) us is
edited_same index h (DelChannel c) other us is = IsIndexOf-edited index h (edited (DelChannel c)) (λ u. refl) us is
edited_same index h (SetChannels es) other us is = IsIndexOf-edited index h (edited (SetChannels es)) (λ u. refl) us is
edited_same index h (SetBot f) other us is = IsIndexOf-edited index h (edited (SetBot f)) (λ u. refl) us is
edited_same index h (SetInfo i) other us is = IsIndexOf-edited index h (edited (SetInfo i)) (λ u. refl) us is

pub IsIndexOf-push : (index : TailIndex) (us : List User) (u : User) → u.masks ≡ [] → IsIndexOf index us → IsIndexOf index (us ++ u ∷ [])
IsIndexOf-push index us u none is = record {
  covers = Covers-push index 0 us u is.covers (subst (AreUnder index (length us + 0)) (sym none) tt);
  names = Names-users index us (us ++ u ∷ []) (λ n. masks_at-push us u n none) is.names;
}

-- ---- one more mask of a user

module _ (h m : List ℕ) (us : List User) (p : ℕ) (at : position_from (λ (x : User). is_same h x.handle) 0 us ≡ Some p) where
  same_place : (n : ℕ) → n ≡ p → n + 0 ≡ p
  same_place n same = omega (arith, same)

  other_place : (n : ℕ) → (n == p) ≡ false → (n + 0 ≡ p) → ⊥
  other_place n other same = true≢false (sym ((Decides-eqb n p).1 (omega (arith, same))) ∙ other)

  more_listed : (t : List ℕ) (x : Listing) (n : ℕ) → is_listed t x (masks_at us n) ≡ true → is_listed t x (masks_at (with_user h (with_mask m) us) n) ≡ true
  more_listed t x n e = by (n == p) refl
    where
      by : (b : Bool) → (n == p) ≡ b → is_listed t x (masks_at (with_user h (with_mask m) us) n) ≡ true
      by true same =
          let r = masks_at-edited h (with_mask m) us 0 p n at (same_place n (eqb-true n p same)) in
          ap (is_listed t x) r.1.1 ∙ listed_push t x r.0.masks m (ap (λ o. is_listed t x (masks_of o)) (sym r.1.0) ∙ e)
      by false other = ap (is_listed t x) (masks_at-other h (with_mask m) us 0 p n at (other_place n other)) ∙ e

  new_listed : is_listed (mask_tail m) (listing_of p m) (masks_at (with_user h (with_mask m) us) p) ≡ true
  new_listed =
      let r = masks_at-edited h (with_mask m) us 0 p p at (same_place p refl) in
      ap (is_listed (mask_tail m) (listing_of p m)) r.1.1 ∙ listed_last p r.0.masks m

  pub IsIndexOf-with_mask : (old new : TailIndex) → Keeps old new → AddsOnly old.groups.entries new.groups.entries (mask_tail m) (listing_of p m)
      → IsUnder new (mask_tail m) (listing_of p m) → IsIndexOf old us → IsIndexOf new (with_user h (with_mask m) us)
  IsIndexOf-with_mask old new kept only under is = record {
    covers = Covers-with_mask new h m us
        (λ q there. subst (λ k. IsUnder new (mask_tail m) (listing_of k m)) (one_place q (sym at ∙ there)) under) (Covers-keeps old new kept 0 us is.covers);
    names = Names-added old new (with_user h (with_mask m) us) p m only new_listed (λ t x i. more_listed t x x.place (is.names t x i));
  }
    where
      one_place : (q : ℕ) → Some p ≡ Some q → p ≡ q
      one_place q e = cc

  -- the listings of other users stay where one of this user is added or a mask is gone
  pub NamesBut-added : (old new : TailIndex) → AddsOnly old.groups.entries new.groups.entries (mask_tail m) (listing_of p m) → Names old us → NamesBut p new us
  NamesBut-added old new only names t x i other = elim (only t x i) [
    | inl before ↦ names t x before
    | inr added ↦ absurd (true≢false (sym (ap (λ (y : Listing). y.place == p) added.1 ∙ (Decides-eqb p p).1 refl) ∙ other))
  ]

  pub NamesBut-without : (index : TailIndex) → Names index us → NamesBut p index (with_user h (without_mask m) us)
  NamesBut-without index names t x i other =
      ap (is_listed t x) (masks_at-other h (without_mask m) us 0 p x.place at (other_place x.place other)) ∙ names t x i

-- ---- listings that no mask has are dropped

module _ (old new : TailIndex) (us : List User) (p : ℕ) (lengths : new.lengths ≡ old.lengths)
    (left : LeavesListed old.groups.entries new.groups.entries p (masks_at us p)) where
  kept_listed : (n : ℕ) (m : List ℕ) → is_listed (mask_tail m) (listing_of n m) (masks_at us n) ≡ true
      → stays p (masks_at us p) (mask_tail m) (listing_of n m) ≡ true
  kept_listed n m e = by (n == p) refl
    where
      by : (b : Bool) → (n == p) ≡ b → (not b || is_listed (mask_tail m) (listing_of n m) (masks_at us p)) ≡ true
      by true same = ap (λ k. is_listed (mask_tail m) (listing_of n m) (masks_at us k)) (sym (eqb-true n p same)) ∙ e
      by false other = refl

  masks_left : (n : ℕ) (ms : List (List ℕ))
      → ((t : List ℕ) (x : Listing) → is_listed t x ms ≡ true → is_listed t x (masks_at us n) ≡ true) → AreUnder old n ms → AreUnder new n ms
  masks_left n [] f under = tt
  masks_left n (m ∷ ms) f under = (
    (
      subst (λ (ls : List ℕ). slice_index ls (length (mask_tail m)) ≡ 1) (sym lengths) under.0.0,
      (left (mask_tail m) (listing_of n m)).0 under.0.1 (kept_listed n m (f (mask_tail m) (listing_of n m) (or_left _ _ (own n m)))),
    ),
    masks_left n ms (λ t x e. f t x (or_right _ _ e)) under.1,
  )

  users_left : (vs : List User) (n : ℕ) → ((i : ℕ) → slice_get vs i ≡ slice_get us (i + n)) → Covers old n vs → Covers new n vs
  users_left [] n at covers = tt
  users_left (v ∷ vs) n at covers = (
    masks_left n v.masks (λ t x e. ap (λ o. is_listed t x (masks_of o)) here ∙ e) covers.0,
    users_left vs (suc n) (λ i. at (suc i) ∙ next i) covers.1,
  )
    where
      next : (i : ℕ) → slice_get us (suc i + n) ≡ slice_get us (i + suc n)
      next i = let same : suc i + n ≡ i + suc n = omega arith in ap (slice_get us) same

      here : slice_get us n ≡ Some v
      here = let same : n ≡ 0 + n = omega arith in ap (slice_get us) same ∙ sym (at 0)

  pub IsIndexOf-tidied : Covers old 0 us → NamesBut p old us → IsIndexOf new us
  IsIndexOf-tidied covers names = record {
    covers = users_left us 0 (λ i. let same : i ≡ i + 0 = omega arith in ap (slice_get us) same) covers;
    names = λ t x i. let r = (left t x).1 i in by t x r.0 (x.place == p) refl r.1;
  }
    where
      by : (t : List ℕ) (x : Listing) → IsIn x (listings_at t old.groups.entries) → (b : Bool) → (x.place == p) ≡ b
          → (not b || is_listed t x (masks_at us p)) ≡ true → is_listed t x (masks_at us x.place) ≡ true
      by t x i true same e = ap (λ k. is_listed t x (masks_at us k)) (eqb-true x.place p same) ∙ e
      by t x i false other e = names t x i other

-- ---- a user taken out

module _ (h : List ℕ) where
  masks_at-before : (us : List User) (k p n : ℕ) → position_from (λ (x : User). is_same h x.handle) k us ≡ Some p → n + k < p
      → masks_at (users_without h us) n ≡ masks_at us n
  masks_at-before [] k p n at lt = refl
  masks_at-before (x ∷ us) k p n at lt = by (is_same h x.handle) at n lt (λ g i o. masks_at-before us (k + 1) p i g o)
    where
      by : (b : Bool) → cond b (Some k) (position_from (λ (y : User). is_same h y.handle) (k + 1) us) ≡ Some p → (i : ℕ) → i + k < p
          → (position_from (λ (y : User). is_same h y.handle) (k + 1) us ≡ Some p → (j : ℕ) → j + (k + 1) < p
          → masks_at (users_without h us) j ≡ masks_at us j)
          → masks_at (cond (not b) (x ∷ users_without h us) (users_without h us)) i ≡ masks_at (x ∷ us) i
      by true at i lt rest = let here : k ≡ p = cc in absurd (omega (arith, here, lt))
      by false at zero lt rest = refl
      by false at (suc i) lt rest = rest at i (omega (arith, lt))

  masks_at-after : (us : List User) (k p n : ℕ) → repeats_handle us ≡ false → position_from (λ (x : User). is_same h x.handle) k us ≡ Some p → p ≤ n + k
      → masks_at (users_without h us) n ≡ masks_at us (suc n)
  masks_at-after [] k p n apart at le = refl
  masks_at-after (x ∷ us) k p n apart at le = by (is_same h x.handle) refl at n le (λ g i o. masks_at-after us (k + 1) p i (or_false apart).1 g o)
    where
      by : (b : Bool) → is_same h x.handle ≡ b → cond b (Some k) (position_from (λ (y : User). is_same h y.handle) (k + 1) us) ≡ Some p → (i : ℕ) → p ≤ i + k
          → (position_from (λ (y : User). is_same h y.handle) (k + 1) us ≡ Some p → (j : ℕ) → p ≤ j + (k + 1)
          → masks_at (users_without h us) j ≡ masks_at us (suc j))
          → masks_at (cond (not b) (x ∷ users_without h us) (users_without h us)) i ≡ masks_at us i
      by true e at i le rest = ap (λ vs. masks_at vs i) (users_without-absent h us (absent-like h x.handle us e (or_false apart).0))
      by false e at zero le rest = let later : k + 1 ≤ p = position-above h us (k + 1) p at in absurd (omega (arith, le, later))
      by false e at (suc i) le rest = rest at i (omega (arith, le))

module _ (old new : TailIndex) (place : ℕ) (lengths : new.lengths ≡ old.lengths) (out : LeavesOut old.groups.entries new.groups.entries place)
    (h : List ℕ) (us : List User) (apart : repeats_handle us ≡ false) (at : position_from (λ (x : User). is_same h x.handle) 0 us ≡ Some place) where
  strictly : (n : ℕ) → n ≤ place → ((n ≡ place) → ⊥) → n + 0 < place
  strictly n le other = elim (cases_lt n place) [ inl lt ↦ omega (arith, lt) | inr ge ↦ absurd (other (omega (arith, le, ge))) ]

  moved_names : (t : List ℕ) (y : Listing) → (y.place == place) ≡ false → is_listed t y (masks_at us y.place) ≡ true
      → is_listed t (moved_up place y) (masks_at (users_without h us) (moved_up place y).place) ≡ true
  moved_names t y other e = by (nat_lt place y.place) refl
    where
      not_there : (y.place ≡ place) → ⊥
      not_there same = true≢false (sym ((Decides-eqb y.place place).1 same) ∙ other)

      by : (b : Bool) → nat_lt place y.place ≡ b → is_listed t y (masks_at (users_without h us) (cond b (y.place - 1) y.place)) ≡ true
      by true later =
          let lt : place < y.place = ltb-true place y.place later in
          let next : suc (y.place - 1) ≡ y.place = omega (arith, lt) in
          ap (is_listed t y) (masks_at-after h us 0 place (y.place - 1) apart at (omega (arith, lt)) ∙ ap (masks_at us) next) ∙ e
      by false before =
          let le : y.place ≤ place = ltb-false place y.place before in
          ap (is_listed t y) (masks_at-before h us 0 place y.place at (strictly y.place le not_there)) ∙ e

  pub IsIndexOf-without : IsIndexOf old us → IsIndexOf new (users_without h us)
  IsIndexOf-without is = record {
    covers = Covers-without old new place lengths out h us 0 apart at is.covers;
    names = λ t x i. let r = (out t).2 x i in subst (λ (z : Listing). is_listed t z (masks_at (users_without h us) z.place) ≡ true) r.1.1.1
        (moved_names t r.0 r.1.1.0 (is.names t r.0 r.1.0));
  }
