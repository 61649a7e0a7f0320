-- The index of hostmasks covers all users, before and after each change, and so a search through it finds who decides.
use Rattle.std.proofs.Common.{◌≡◌, ℕ, zero, suc, ◌+◌, ◌<◌, ◌≤◌, ◌==◌, nat_eq, inl, inr, Bool, true, false, cond, not, ◌&&◌, ◌||◌, List, [], ◌∷◌}
use Rattle.std.proofs.Common.{◌++◌, filter, length, refl, sym, ap, subst, ◌∙◌, arith, None, Some, slice_get, slice_index}
use Rattle.std.proofs.Common.{get_or, take}
use Rattle.std.specs.List.{list_any, position_from}
use Rattle.std.specs.Cmp.Lexicographic.{pointwise, bytes_decides}
use Rattle.std.proofs.lemmas.Bool.{cases_lt, eqb-true}
use Rattle.std.proofs.lemmas.List.{take_more}
use Rattle.rfccase.specs.Casemapping.{is_same}
use Rattle.wildmask.specs.Signatures.{same_pairs}
use Rattle.wildmask.specs.Tails.{end_key}
use Rattle.wildmask.proofs.SignatureLemmas.{same_pairs-same}
use Rattle.userfile.specs.declared.user.User.{User}
use Rattle.userfile.specs.declared.index.TailIndex.{TailIndex}
use Rattle.userfile.specs.declared.index.Listing.{Listing}
use Rattle.userfile.specs.Hostmasks.{is_match, literals, mask_tail, mask_pairs}
use Rattle.userfile.specs.Apply.{with_mask, without_mask}
use Rattle.userfile.specs.Held.{with_user, users_without}
use Rattle.userfile.specs.Together.{repeats_handle}
use Rattle.userfile.specs.Persons.{user_for}
use Rattle.userfile.specs.Search.{after_listings, user_at}
use Rattle.userfile.specs.Index.{is_listed, is_of, listed, listing_of, listings_at, masks_at, IsIn, IsUnder, AreUnder, Covers, Keeps, LeavesOut, asked_at, asked}
use Rattle.userfile.proofs.GroupLemmas.{IsIn-left, IsIn-right}
use Rattle.userfile.proofs.MatchLemmas.{match_ends, tail_short}
use Rattle.userfile.proofs.RepeatLemmas.{and_true, or_false, or_both}
use Rattle.rfccase.proofs.SameLemmas.{is_same-left}
use Rattle.userfile.proofs.SearchLemmas.{AreListed, UsersBeaten, user_beaten, claim-after_listings, best-user_for}
use Rattle.rfccase.specs.declared.casemappings.Casemapping.{Casemapping}

-- ---- what is asked for

in_asked : (index : TailIndex) (who : List ℕ) (n : Listing) (k j : ℕ) → j < k → IsIn n (asked_at index who j) → IsIn n (asked index who k)
in_asked index who n zero j lt h = absurd (omega (arith, lt))
in_asked index who n (suc k) j lt h = elim
    (cases_lt j k) [
      | inl below ↦ IsIn-left n (asked index who k) (asked_at index who k) (in_asked index who n k j below h)
      | inr above ↦ IsIn-right n
          (asked index who k) (asked_at index who k) (last above)
    ]
  where
    last : k ≤ j → IsIn n (asked_at index who k)
    last above = let same : j ≡ k = omega (arith, lt, above) in subst (λ i. IsIn n (asked_at index who i)) same h

-- the listing of a mask that matches is asked for
mask_asked : (mapping : Casemapping) (index : TailIndex) (who : List ℕ) (n : ℕ) (m : List ℕ) → IsUnder index (mask_tail m) (listing_of n m) → is_match mapping m who ≡ true
    → IsIn (listing_of n m) (asked index who 17)
mask_asked mapping index who n m under hit =
    let here : IsIn (listing_of n m) (listings_at (end_key (length (mask_tail m)) who) index.groups.entries) =
    subst (λ t. IsIn (listing_of n m) (listings_at t index.groups.entries)) (match_ends mapping m who hit) under.1 in
    in_asked index who (listing_of n m) 17 (length (mask_tail m)) (tail_short m)
    (subst (λ k. IsIn (listing_of n m) (cond (k == 0) [] (listings_at (end_key (length (mask_tail m)) who) index.groups.entries))) (sym under.0) here)

all_asked : (mapping : Casemapping) (index : TailIndex) (who : List ℕ) (n : ℕ) (ms : List (List ℕ)) → AreUnder index n ms → AreListed mapping who n (asked index who 17) ms
all_asked mapping index who n [] under = tt
all_asked mapping index who n (m ∷ ms) under = (λ hit. mask_asked mapping index who n m under.0 hit, all_asked mapping index who n ms under.1)

module _ (mapping : Casemapping) (index : TailIndex) (who : List ℕ) (users : List User) where
  users_beaten : (us : List User) (n : ℕ) → ((i : ℕ) → slice_get us i ≡ slice_get users (i + n)) → Covers index n us
      → UsersBeaten mapping who n us (after_listings mapping who users (asked index who 17) None)
  users_beaten [] n at covers = tt
  users_beaten (u ∷ us) n at covers = (
    user_beaten mapping who users (asked index who 17) n u None here u.masks (all_asked mapping index who n u.masks covers.0) (λ x some. some),
    users_beaten us (suc n) (λ i. at (suc i) ∙ next i) covers.1,
  )
    where
      next : (i : ℕ) → slice_get users (suc i + n) ≡ slice_get users (i + suc n)
      next i = let same : suc i + n ≡ i + suc n = omega arith in ap (slice_get users) same

      here : slice_get users n ≡ Some u
      here = let same : n ≡ 0 + n = omega arith in ap (slice_get users) same ∙ sym (at 0)

  -- a search of what is asked for finds who decides
  pub asked-user_for : Covers index 0 users → user_at users (after_listings mapping who users (asked index who 17) None) ≡ user_for mapping who users
  asked-user_for covers = best-user_for mapping who users _ (users_beaten users 0 (λ i. let same : i ≡ i + 0 = omega arith in ap (slice_get users) same) covers)
      (claim-after_listings mapping who users (asked index who 17) None tt)

-- ---- an index that keeps what stood in it

AreUnder-keeps : (old new : TailIndex) → Keeps old new → (n : ℕ) (ms : List (List ℕ)) → AreUnder old n ms → AreUnder new n ms
AreUnder-keeps old new keeps n [] h = tt
AreUnder-keeps old new keeps n (m ∷ ms) h = (keeps (mask_tail m) (listing_of n m) h.0, AreUnder-keeps old new keeps n ms h.1)

pub Covers-keeps : (old new : TailIndex) → Keeps old new → (n : ℕ) (us : List User) → Covers old n us → Covers new n us
Covers-keeps old new keeps n [] h = tt
Covers-keeps old new keeps n (u ∷ us) h = (AreUnder-keeps old new keeps n u.masks h.0, Covers-keeps old new keeps (suc n) us h.1)

pub AreUnder-push : (index : TailIndex) (n : ℕ) (ms : List (List ℕ)) (m : List ℕ) → AreUnder index n ms → IsUnder index (mask_tail m) (listing_of n m)
    → AreUnder index n (ms ++ m ∷ [])
AreUnder-push index n [] m h under = (under, tt)
AreUnder-push index n (x ∷ ms) m h under = (h.0, AreUnder-push index n ms m h.1 under)

AreUnder-filter : (index : TailIndex) (n : ℕ) (p : List ℕ → Bool) (ms : List (List ℕ)) → AreUnder index n ms → AreUnder index n (filter p ms)
AreUnder-filter index n p [] h = tt
AreUnder-filter index n p (m ∷ ms) h = by (p m) (AreUnder-filter index n p ms h.1)
  where
    by : (b : Bool) → AreUnder index n (filter p ms) → AreUnder index n (cond b (m ∷ filter p ms) (filter p ms))
    by true r = (h.0, r)
    by false r = r

-- ---- a listing that a user has already

-- a mask that has a listing has also the tail and the listing under which it stands
module _ (index : TailIndex) (n : ℕ) (m : List ℕ) where
  under_like : (k : List ℕ) → (is_of (listing_of n m) k && pointwise nat_eq (mask_tail m) (mask_tail k)) ≡ true → IsUnder index (mask_tail k) (listing_of n k)
      → IsUnder index (mask_tail m) (listing_of n m)
  under_like k e under =
      let parts : (is_of (listing_of n m) k ≡ true) × (pointwise nat_eq (mask_tail m) (mask_tail k) ≡ true) = and_true e in
      let same : ((literals k == literals m) ≡ true) × (same_pairs (mask_pairs k) (mask_pairs m) ≡ true) = and_true parts.0 in
      let listing : listing_of n k ≡ listing_of n m =
      ap (λ l. listed n l (mask_pairs k)) (eqb-true (literals k) (literals m) same.0)
      ∙ ap (λ p. listed n (literals m) p) (same_pairs-same (mask_pairs k) (mask_pairs m) same.1) in
      subst (λ t. IsUnder index t (listing_of n m)) (sym ((bytes_decides (mask_tail m) (mask_tail k)).0 parts.1))
      (subst (IsUnder index (mask_tail k)) listing under)

  pub AreUnder-listed : (ms : List (List ℕ)) → AreUnder index n ms → is_listed (mask_tail m) (listing_of n m) ms ≡ true → IsUnder index (mask_tail m) (listing_of n m)
  AreUnder-listed [] h e = cc
  AreUnder-listed (k ∷ ms) h e = by (is_of (listing_of n m) k && pointwise nat_eq (mask_tail m) (mask_tail k)) refl e (AreUnder-listed ms h.1)
    where
      by : (b : Bool) → (is_of (listing_of n m) k && pointwise nat_eq (mask_tail m) (mask_tail k)) ≡ b
          → (b || is_listed (mask_tail m) (listing_of n m) ms) ≡ true
          → (is_listed (mask_tail m) (listing_of n m) ms ≡ true → IsUnder index (mask_tail m) (listing_of n m)) → IsUnder index (mask_tail m) (listing_of n m)
      by true f e rest = under_like k f h.0
      by false f e rest = rest e

-- the masks of one of the users
pub Covers-at : (index : TailIndex) (us : List User) (n i : ℕ) → Covers index n us → AreUnder index (i + n) (masks_at us i)
Covers-at index [] n i h = tt
Covers-at index (u ∷ us) n zero h = let place : n ≡ 0 + n = omega arith in subst (λ k. AreUnder index k u.masks) place h.0
Covers-at index (u ∷ us) n (suc i) h =
    let place : i + suc n ≡ suc i + n = omega arith in subst (λ k. AreUnder index k (masks_at us i)) place (Covers-at index us (suc n) i h.1)

-- ---- users added, edited and taken out

pub Covers-push : (index : TailIndex) (n : ℕ) (us : List User) (u : User) → Covers index n us → AreUnder index (length us + n) u.masks
    → Covers index n (us ++ u ∷ [])
Covers-push index n [] u h under = let same : length {A = User} [] + n ≡ n = omega arith in (subst (λ k. AreUnder index k u.masks) same under, tt)
Covers-push index n (x ∷ us) u h under =
    let same : suc (length us) + n ≡ length us + suc n = omega arith in
    (h.0, Covers-push index (suc n) us u h.1 (subst (λ k. AreUnder index k u.masks) same under))

module _ (index : TailIndex) (h : List ℕ) (edit : User → User) where
  Covers-with_user : (us : List User) (n : ℕ)
      → ((p : ℕ) (u : User) → position_from (λ (x : User). is_same h x.handle) n us ≡ Some p → AreUnder index p u.masks → AreUnder index p (edit u).masks)
      → Covers index n us → Covers index n (with_user h edit us)
  Covers-with_user [] n f covers = tt
  Covers-with_user (x ∷ us) n f covers = by (is_same h x.handle) f (λ g. Covers-with_user us (suc n) g covers.1)
    where
      by : (b : Bool) → ((p : ℕ) (u : User) → cond b (Some n) (position_from (λ (x : User). is_same h x.handle) (n + 1) us) ≡ Some p
          → AreUnder index p u.masks → AreUnder index p (edit u).masks)
          → (((p : ℕ) (u : User) → position_from (λ (x : User). is_same h x.handle) (suc n) us ≡ Some p → AreUnder index p u.masks
          → AreUnder index p (edit u).masks) → Covers index (suc n) (with_user h edit us))
          → Covers index n (cond b (edit x ∷ us) (x ∷ with_user h edit us))
      by true f rest = (f n x refl covers.0, covers.1)
      by false f rest = (covers.0, rest (λ p u at under. f p u (ap (λ k. position_from (λ (x : User). is_same h x.handle) k us) (sym next) ∙ at) under))
        where
          next : suc n ≡ n + 1
          next = omega arith

pub Covers-masks : (index : TailIndex) (h : List ℕ) (edit : User → User) → ((u : User) → (edit u).masks ≡ u.masks) → (us : List User) (n : ℕ)
    → Covers index n us → Covers index n (with_user h edit us)
Covers-masks index h edit same us n covers = Covers-with_user index h edit us n (λ p u at under. subst (AreUnder index p) (sym (same u)) under) covers

-- a user with fewer masks is covered still
pub Covers-without_mask : (index : TailIndex) (h m : List ℕ) (us : List User) → Covers index 0 us → Covers index 0 (with_user h (without_mask m) us)
Covers-without_mask index h m us covers =
    Covers-with_user index h (without_mask m) us 0 (λ p u at under. AreUnder-filter index p (λ x. not (is_same m x)) u.masks under) covers

-- one more mask of the user with a handle, which is under its tail
pub Covers-with_mask : (index : TailIndex) (h m : List ℕ) (us : List User)
    → ((p : ℕ) → position_from (λ (x : User). is_same h x.handle) 0 us ≡ Some p → IsUnder index (mask_tail m) (listing_of p m)) → Covers index 0 us
    → Covers index 0 (with_user h (with_mask m) us)
Covers-with_mask index h m us under covers = Covers-with_user index h (with_mask m) us 0
    (λ p u at masks. AreUnder-push index p u.masks m masks (under p at)) covers

-- ---- a user taken out

module _ (old new : TailIndex) (place : ℕ) (lengths : new.lengths ≡ old.lengths) (out : LeavesOut old.groups.entries new.groups.entries place) where
  asked_still : (t : List ℕ) → slice_index old.lengths (length t) ≡ 1 → slice_index new.lengths (length t) ≡ 1
  asked_still t at = subst (λ (ls : List ℕ). slice_index ls (length t) ≡ 1) (sym lengths) at

  AreUnder-up : (n : ℕ) (ms : List (List ℕ)) → place ≤ n → AreUnder old (suc n) ms → AreUnder new n ms
  AreUnder-up n [] le h = tt
  AreUnder-up n (m ∷ ms) le h = (
    (asked_still (mask_tail m) h.0.0, (out (mask_tail m)).1 n (literals m) (mask_pairs m) le h.0.1),
    AreUnder-up n ms le h.1,
  )

  AreUnder-stays : (n : ℕ) (ms : List (List ℕ)) → n < place → AreUnder old n ms → AreUnder new n ms
  AreUnder-stays n [] lt h = tt
  AreUnder-stays n (m ∷ ms) lt h = (
    (asked_still (mask_tail m) h.0.0, (out (mask_tail m)).0 n (literals m) (mask_pairs m) lt h.0.1),
    AreUnder-stays n ms lt h.1,
  )

  Covers-up : (n : ℕ) (us : List User) → place ≤ n → Covers old (suc n) us → Covers new n us
  Covers-up n [] le h = tt
  Covers-up n (u ∷ us) le h = (AreUnder-up n u.masks le h.0, Covers-up (suc n) us (omega (arith, le)) h.1)

-- where no user has a handle, none is taken out
pub users_without-absent : (h : List ℕ) (us : List User) → list_any (λ (u : User). is_same h u.handle) us ≡ false → users_without h us ≡ us
users_without-absent h [] none = refl
users_without-absent h (u ∷ us) none =
    ap (λ b. cond (not b) (u ∷ users_without h us) (users_without h us)) (or_false none).0 ∙ ap (λ vs. u ∷ vs) (users_without-absent h us (or_false none).1)

pub absent-like : (a b : List ℕ) (us : List User) → is_same a b ≡ true → list_any (λ (u : User). is_same b u.handle) us ≡ false
    → list_any (λ (u : User). is_same a u.handle) us ≡ false
absent-like a b [] same none = refl
absent-like a b (u ∷ us) same none = or_both (is_same-left a b u.handle same ∙ (or_false none).0) (absent-like a b us same (or_false none).1)

pub position-above : (h : List ℕ) (us : List User) (n p : ℕ) → position_from (λ (x : User). is_same h x.handle) n us ≡ Some p → n ≤ p
position-above h [] n p at = cc
position-above h (x ∷ us) n p at = by (is_same h x.handle) at (λ g. position-above h us (n + 1) p g)
  where
    by : (b : Bool) → cond b (Some n) (position_from (λ (x : User). is_same h x.handle) (n + 1) us) ≡ Some p
        → (position_from (λ (x : User). is_same h x.handle) (n + 1) us ≡ Some p → n + 1 ≤ p) → n ≤ p
    by true at rest = let same : n ≡ p = cc in omega (arith, same)
    by false at rest = omega (arith, rest at)

pub position-below : (h : List ℕ) (us : List User) (n p : ℕ) → position_from (λ (x : User). is_same h x.handle) n us ≡ Some p → p < n + length us
position-below h [] n p at = cc
position-below h (x ∷ us) n p at = by (is_same h x.handle) at (λ g. position-below h us (n + 1) p g)
  where
    by : (b : Bool) → cond b (Some n) (position_from (λ (x : User). is_same h x.handle) (n + 1) us) ≡ Some p
        → (position_from (λ (x : User). is_same h x.handle) (n + 1) us ≡ Some p → p < n + 1 + length us) → p < n + suc (length us)
    by true at rest = let same : n ≡ p = cc in omega (arith, same)
    by false at rest = omega (arith, rest at)

pub position-none : (h : List ℕ) (us : List User) (n : ℕ) → position_from (λ (x : User). is_same h x.handle) n us ≡ None
    → list_any (λ (u : User). is_same h u.handle) us ≡ false
position-none h [] n at = refl
position-none h (x ∷ us) n at = by (is_same h x.handle) at (λ g. position-none h us (n + 1) g)
  where
    by : (b : Bool) → cond b (Some n) (position_from (λ (x : User). is_same h x.handle) (n + 1) us) ≡ None
        → (position_from (λ (x : User). is_same h x.handle) (n + 1) us ≡ None → list_any (λ (u : User). is_same h u.handle) us ≡ false)
        → (b || list_any (λ (u : User). is_same h u.handle) us) ≡ false
    by true at rest = cc
    by false at rest = rest at

module _ (old new : TailIndex) (place : ℕ) (lengths : new.lengths ≡ old.lengths) (out : LeavesOut old.groups.entries new.groups.entries place)
    (h : List ℕ) where
  pub Covers-without : (us : List User) (n : ℕ) → repeats_handle us ≡ false → position_from (λ (x : User). is_same h x.handle) n us ≡ Some place
      → Covers old n us → Covers new n (users_without h us)
  Covers-without [] n apart at covers = tt
  Covers-without (x ∷ us) n apart at covers = by (is_same h x.handle) refl at (λ g. Covers-without us (suc n) (or_false apart).1 g covers.1)
    where
      next : n + 1 ≡ suc n
      next = omega arith

      by : (b : Bool) → is_same h x.handle ≡ b → cond b (Some n) (position_from (λ (x : User). is_same h x.handle) (n + 1) us) ≡ Some place
          → (position_from (λ (x : User). is_same h x.handle) (suc n) us ≡ Some place → Covers new (suc n) (users_without h us))
          → Covers new n (cond (not b) (x ∷ users_without h us) (users_without h us))
      by true e at rest =
          let here : n ≡ place = cc in
          let gone = users_without-absent h us (absent-like h x.handle us e (or_false apart).0) in
          subst (Covers new n) (sym gone) (Covers-up old new place lengths out n us (omega (arith, here)) covers.1)
      by false e at rest =
          let later = ap (λ k. position_from (λ (x : User). is_same h x.handle) k us) (sym next) ∙ at in
          (AreUnder-stays old new place lengths out n x.masks (omega (arith, position-above h us (suc n) place later)) covers.0, rest later)

-- one more of the masks that a loop goes through
pub AreUnder-next : (old new : TailIndex) (n : ℕ) (ms : List (List ℕ)) (i : ℕ) (m : List ℕ) → Keeps old new → i < length ms → m ≡ get_or ms i m
    → IsUnder new (mask_tail m) (listing_of n m) → AreUnder old n (take i ms)
    → AreUnder new n (take (i + 1) ms)
AreUnder-next old new n ms i m keeps lt at under so_far =
    subst (AreUnder new n) (sym (take_more ms i m lt ∙ ap (λ x. take i ms ++ x ∷ []) (sym at)))
    (AreUnder-push new n (take i ms) m (AreUnder-keeps old new keeps n (take i ms) so_far) under)

-- one more of the users that a loop goes through
pub Covers-next : (old new : TailIndex) → Keeps old new → (us : List User) (n i : ℕ) → i < length us → AreUnder new (i + n) (masks_at us i)
    → Covers old n (take i us) → Covers new n (take (suc i) us)
Covers-next old new keeps [] n i lt under so_far = absurd (omega (arith, lt))
Covers-next old new keeps (x ∷ us) n zero lt under so_far =
    let place : 0 + n ≡ n = omega arith in
    (subst (λ k. AreUnder new k x.masks) place under, tt)
Covers-next old new keeps (x ∷ us) n (suc i) lt under so_far =
    let place : suc i + n ≡ i + suc n = omega arith in (
      AreUnder-keeps old new keeps n x.masks so_far.0,
      Covers-next old new keeps us (suc n) i (omega (arith, lt))
          (subst (λ k. AreUnder new k (masks_at us i)) place under) so_far.1,
    )
