-- The user of a person's handle is the user that the person is, and one of the user's hostmasks decides it.
use Rattle.std.proofs.Common.{◌≡◌, ◌≢◌, ◌∙◌, ◌++◌, ◌&&◌, ◌||◌, ◌≤◌, ◌<◌, ◌+◌, not, ℕ, Bool, true, false, true≢false, cond, if◌then◌else◌, List, [], ◌∷◌, length, get_or, drop, map, filter, codes, refl, sym, ap, subst, Option, None, Some, nat_eq, nat_le, nat_lt, arith}
use Rattle.std.specs.List.{list_all, list_any}
use Rattle.std.specs.Cmp.Lexicographic.{pointwise}
use Rattle.std.proofs.lemmas.Bool.{and_from, and_parts}
use Rattle.std.proofs.lemmas.Bool.Decides.{nat_tests}
use Rattle.std.proofs.lemmas.List.{at_drop_more}
use Rattle.rfccase.specs.Casemapping.{folded, is_same, low}
use Rattle.rfccase.specs.declared.casemappings.Casemapping.{Casemapping}
use Rattle.rfccase.proofs.SameLemmas.{is_same-refl, is_same-sym}
use Rattle.userfile.specs.Held.{user_of}
use Rattle.userfile.specs.Hostmasks.{is_match, literals}
use Rattle.userfile.specs.Persons.{Claim, claim, claims, claims_of, decider, handle_of, handle_or_star, is_most, user_for}
use Rattle.userfile.specs.Records.{Records}
use Rattle.userfile.specs.Shapes.{is_handle, is_handle_byte}
use Rattle.userfile.specs.Together.{AreSound, is_user, repeats_handle}
use Rattle.userfile.specs.declared.user.User.{User}
use Rattle.userfile.proofs.RepeatLemmas.{or_false}
use Rattle.userfile.proofs.SoundLemmas.{first_none, if_none}
use Rattle.page.specs.Persons.{better_of, deciding_mask, exceeds}

-- ---- a mask that decides

-- where no mask matches, none exceeds
none_exceeds : (mapping : Casemapping) (most : ℕ) (who : List ℕ) (user : User) (masks : List (List ℕ))
    → claims_of mapping who user masks ≡ [] → list_all (exceeds mapping most who) masks ≡ true
none_exceeds mapping most who user [] none = refl
none_exceeds mapping most who user (m ∷ ms) none = by (is_match mapping m who) none (none_exceeds mapping most who user ms)
  where
    rest : List (List ℕ)
    rest = filter (λ mask. is_match mapping mask who) ms

    by : (b : Bool) → map (λ mask. claim (literals mask) user) (cond b (m ∷ rest) rest) ≡ []
        → (claims_of mapping who user ms ≡ [] → list_all (exceeds mapping most who) ms ≡ true)
        → ((not b || nat_le (literals m) most) && list_all (exceeds mapping most who) ms) ≡ true
    by true some later = absurd (cc (some))
    by false none later = later none

-- where none decides, none matches
no_claims : (mapping : Casemapping) (who : List ℕ) (user : User) (masks : List (List ℕ))
    → deciding_mask mapping who masks ≡ None → claims_of mapping who user masks ≡ []
no_claims mapping who user [] none = refl
no_claims mapping who user (m ∷ ms) none = by (is_match mapping m who) (list_all (exceeds mapping (literals m) who) ms) refl none (no_claims mapping who user ms)
  where
    rest : List (List ℕ)
    rest = filter (λ mask. is_match mapping mask who) ms

    by : (b most : Bool) → list_all (exceeds mapping (literals m) who) ms ≡ most
        → cond (b && most) (Some m) (deciding_mask mapping who ms) ≡ None
        → (deciding_mask mapping who ms ≡ None → claims_of mapping who user ms ≡ [])
        → map (λ mask. claim (literals mask) user) (cond b (m ∷ rest) rest) ≡ []
    by true true is none later = absurd (cc (none))
    by true false is none later = absurd (true≢false (sym (none_exceeds mapping (literals m) who user ms (later none)) ∙ is))
    by false most is none later = later none

-- ---- the best mask so far

-- what decides, of the best mask so far and of those that are left
abbrev pub decided : Casemapping → List ℕ → Option (List ℕ) → List (List ℕ) → Option (List ℕ)
decided mapping who None masks = deciding_mask mapping who masks
decided mapping who (Some best) masks =
    if list_all (exceeds mapping (literals best) who) masks then Some best else deciding_mask mapping who masks

fewer_than : (a b : ℕ) → nat_lt a b ≡ true → nat_le b a ≡ false
fewer_than a b less = grind (arith, nat_tests)

at_least : (a b : ℕ) → nat_lt a b ≡ false → nat_le b a ≡ true
at_least a b more = grind (arith, nat_tests)

no_more : (a b : ℕ) → nat_lt a b ≡ false → b ≤ a
no_more a b more = grind (arith, nat_tests)

le_more : (n low high : ℕ) → low ≤ high → nat_le n low ≡ true → nat_le n high ≡ true
le_more n low high more e = grind (arith, nat_tests)

-- what no mask exceeds, none exceeds with more literals
exceeds_more : (mapping : Casemapping) (who : List ℕ) (low high : ℕ) → low ≤ high → (masks : List (List ℕ))
    → list_all (exceeds mapping low who) masks ≡ true → list_all (exceeds mapping high who) masks ≡ true
exceeds_more mapping who low high more [] e = refl
exceeds_more mapping who low high more (m ∷ ms) e = by (is_match mapping m who) e (exceeds_more mapping who low high more ms)
  where
    by : (b : Bool) → ((not b || nat_le (literals m) low) && list_all (exceeds mapping low who) ms) ≡ true
        → (list_all (exceeds mapping low who) ms ≡ true → list_all (exceeds mapping high who) ms ≡ true)
        → ((not b || nat_le (literals m) high) && list_all (exceeds mapping high who) ms) ≡ true
    by false e later = later e
    by true e later = and_from _ _ (le_more (literals m) low high more (and_parts _ _ e).0) (later (and_parts _ _ e).1)

-- the next mask is the best one if it matches and is better
decided_step : (mapping : Casemapping) (who : List ℕ) (best : Option (List ℕ)) (mask : List ℕ) (masks : List (List ℕ))
    → decided mapping who best (mask ∷ masks)
    ≡ decided mapping who (better_of mapping who best mask) masks
decided_step mapping who None mask masks = by (is_match mapping mask who)
  where
    by : (b : Bool)
        → (if b && list_all (exceeds mapping (literals mask) who) masks then Some mask else deciding_mask mapping who masks)
        ≡ decided mapping who (if b && true then Some mask else None) masks
    by true = refl
    by false = refl
decided_step mapping who (Some best) mask masks =
    by (is_match mapping mask who) (nat_lt (literals best) (literals mask)) (list_all (exceeds mapping (literals best) who) masks) refl refl
  where
    by : (b less all : Bool) → nat_lt (literals best) (literals mask) ≡ less → list_all (exceeds mapping (literals best) who) masks ≡ all
        → (if (not b || nat_le (literals mask) (literals best)) && all then Some best
        else if b && list_all (exceeds mapping (literals mask) who) masks then Some mask else deciding_mask mapping who masks)
        ≡ decided mapping who (if b && less then Some mask else Some best) masks
    by false less true is e = rw e
    by false less false is e = rw e
    by true true all is e = rw (fewer_than (literals best) (literals mask) is)
    by true false true is e = rw (at_least (literals best) (literals mask) is, e)
    by true false false is e = rw (at_least (literals best) (literals mask) is, e, none (list_all (exceeds mapping (literals mask) who) masks) refl is e)
      where
        none : (some : Bool) → list_all (exceeds mapping (literals mask) who) masks ≡ some
            → nat_lt (literals best) (literals mask) ≡ false → list_all (exceeds mapping (literals best) who) masks ≡ false
            → list_all (exceeds mapping (literals mask) who) masks ≡ false
        none true all is e = absurd (true≢false (sym (exceeds_more mapping who (literals mask) (literals best) (no_more (literals best) (literals mask) is) masks all) ∙ e))
        none false all is e = all

pub decided_next : (mapping : Casemapping) (who : List ℕ) (best : Option (List ℕ)) (masks : List (List ℕ)) (i : ℕ) (d : List ℕ) → i < length masks
    → decided mapping who best (drop i masks) ≡ decided mapping who (better_of mapping who best (get_or masks i d)) (drop (i + 1) masks)
decided_next mapping who best masks i d more =
    at_drop_more (decided mapping who best) masks i d more ∙ decided_step mapping who best (get_or masks i d) (drop (i + 1) masks)

-- ---- what holds of each claim's user holds of the decider

module _ (P : User → Type 0) where
  abbrev OfUsers : List Claim → Type 0
  OfUsers [] = Unit {0}
  OfUsers (c ∷ cs) = P c.user × OfUsers cs

  of_both : (cs ds : List Claim) → OfUsers cs → OfUsers ds → OfUsers (cs ++ ds)
  of_both [] ds h g = g
  of_both (c ∷ cs) ds h g = (h.0, of_both cs ds h.1 g)

  of_masks : (user : User) (masks : List (List ℕ)) → P user → OfUsers (map (λ mask. claim (literals mask) user) masks)
  of_masks user [] p = tt
  of_masks user (m ∷ ms) p = (p, of_masks user ms p)

  of_decider : (cs : List Claim) (user : User) → OfUsers cs → decider cs ≡ Some user → P user
  unfolding decider
  of_decider [] user all e = cc
  of_decider (c ∷ cs) user all e = by (is_most c.literals cs) e (of_decider cs user all.1)
    where
      by : (b : Bool) → cond b (Some c.user) (decider cs) ≡ Some user → (decider cs ≡ Some user → P user) → P user
      by true same later = let is : c.user ≡ user = cc in subst P is all.0
      by false after later = later after

-- ---- a handle is of one user

abbrev AreFound : List User → List User → Type 0
AreFound all [] = Unit {0}
AreFound all (u ∷ us) = (user_of u.handle all ≡ Some u) × AreFound all us

-- users are found behind one whose handle none of them has
found_behind : (x : User) (all us : List User) → list_any (λ (u : User). is_same x.handle u.handle) us ≡ false
    → AreFound all us → AreFound (x ∷ all) us
found_behind x all [] apart found = tt
found_behind x all (u ∷ us) apart found =
    (ap (λ b. cond b (Some x) (user_of u.handle all)) (is_same-sym u.handle x.handle ∙ (or_false apart).0) ∙ found.0, found_behind x all us (or_false apart).1 found.1)

all_found : (users : List User) → repeats_handle users ≡ false → AreFound users users
all_found [] apart = tt
all_found (u ∷ us) apart =
    (ap (λ b. cond b (Some u) (user_of u.handle us)) (is_same-refl u.handle), found_behind u us us (or_false apart).0 (all_found us (or_false apart).1))

-- ---- no handle is a star

star_byte : (b : ℕ) → is_handle_byte b ≡ true → nat_eq 42 (low b) ≡ false
star_byte b good = grind (arith, nat_tests)

star_text : (handle : List ℕ) → is_handle handle ≡ true → is_same (codes "*") handle ≡ false
unfolding is_handle
star_text [] good = absurd (true≢false (sym good))
star_text (b ∷ bs) good =
    ap (λ t. t && pointwise nat_eq [] (folded bs)) (star_byte b (and_parts _ _ (and_parts _ _ good).1).0)

star_user : (user : User) → is_user user ≡ true → is_same (codes "*") user.handle ≡ false
unfolding is_user
star_user user good = star_text user.handle (and_parts _ _ (and_parts _ _ (and_parts _ _ good).0).0).0

no_star : (users : List User) → list_all is_user users ≡ true → user_of (codes "*") users ≡ None
no_star [] good = refl
no_star (u ∷ us) good =
    ap (λ b. cond b (Some u) (user_of (codes "*") us)) (star_user u (and_parts _ _ good).0) ∙ no_star us (and_parts _ _ good).1

-- ---- a person

module _ (mapping : Casemapping) (who : List ℕ) where
  -- a user that a person can be: a look-up of the handle finds it, and one of its masks decides
  abbrev IsSuch : List User → User → Type 0
  IsSuch all user = (user_of user.handle all ≡ Some user) × (deciding_mask mapping who user.masks ≢ None)

  such_claims : (all us : List User) → AreFound all us → OfUsers (IsSuch all) (claims mapping who us)
  such_claims all [] found = tt
  such_claims all (u ∷ us) found =
      of_both (IsSuch all) (claims_of mapping who u u.masks) (claims mapping who us) (by (deciding_mask mapping who u.masks) refl) (such_claims all us found.1)
    where
      by : (decides : Option (List ℕ)) → deciding_mask mapping who u.masks ≡ decides → OfUsers (IsSuch all) (claims_of mapping who u u.masks)
      by None e = subst (OfUsers (IsSuch all)) (sym (no_claims mapping who u u.masks e)) tt
      by (Some mask) e = of_masks (IsSuch all) u (filter (λ m. is_match mapping m who) u.masks) (found.0, λ none. cc)

  such : (users : List User) (user : User) → repeats_handle users ≡ false → user_for mapping who users ≡ Some user → IsSuch users user
  such users user apart is = of_decider (IsSuch users) (claims mapping who users) user (such_claims users users (all_found users apart)) is

  apart : (records : Records) → AreSound records → repeats_handle records.users ≡ false
  apart records sound = if_none _ (first_none sound.together).0

  -- the user of the person's handle is the user that the person is
  pub user_of_handle : (records : Records) → AreSound records
      → user_of (handle_of mapping records.users who) records.users ≡ user_for mapping who records.users
  user_of_handle records sound = by (user_for mapping who records.users) refl
    where
      by : (found : Option User) → user_for mapping who records.users ≡ found → user_of (handle_or_star found) records.users ≡ found
      by None e = no_star records.users sound.users
      by (Some user) e = (such records.users user (apart records sound) e).0

  -- and one of the user's masks decides
  pub one_decides : (records : Records) → AreSound records → (user : User) → user_for mapping who records.users ≡ Some user
      → deciding_mask mapping who user.masks ≢ None
  one_decides records sound user is = (such records.users user (apart records sound) is).1
