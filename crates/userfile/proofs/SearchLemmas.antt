-- What a search through some listings leaves as the best claim, and that it decides.
use Rattle.std.proofs.Common.{◌≡◌, ℕ, zero, suc, ◌+◌, ◌<◌, ◌≤◌, ◌==◌, nat_lt, nat_le, ◌⊎◌, inl, inr, Bool, true, false, cond, ◌&&◌, ◌||◌, List, [], ◌∷◌}
use Rattle.std.proofs.Common.{◌++◌, map, filter, refl, sym, ap, subst, ◌∙◌, arith, Option, None, Some, slice_get, ltb-false, ltb-true, true≢false}
use Rattle.std.specs.List.{list_any}
use Rattle.std.proofs.lemmas.Bool.{cases_lt, eqb-true, or_right}
use Rattle.std.proofs.lemmas.Bool.Decides.{Decides-eqb, nat_tests}
use Rattle.userfile.specs.declared.user.User.{User}
use Rattle.userfile.specs.declared.persons.Winner.{Winner}
use Rattle.userfile.specs.declared.index.Listing.{Listing}
use Rattle.wildmask.proofs.SignatureLemmas.{same_pairs-self}
use Rattle.userfile.specs.Hostmasks.{is_match, literals, mask_pairs}
use Rattle.userfile.specs.Persons.{Claim, claim, claims_of, claims, is_most, decider, user_for}
use Rattle.userfile.specs.Search.{is_better, may_win, has_match, after_listing, after_listings, user_at}
use Rattle.userfile.specs.Index.{IsIn, is_of, listing_of}
use Rattle.userfile.proofs.MatchLemmas.{match_pairs}
use Rattle.userfile.proofs.RepeatLemmas.{and_true, and_both}
use Rattle.rfccase.specs.declared.casemappings.Casemapping.{Casemapping}

-- ---- of several groups, one after the other

pub after_listings-append : (mapping : Casemapping) (who : List ℕ) (users : List User) (xs ys : List Listing) (best : Option Winner)
    → after_listings mapping who users (xs ++ ys) best ≡ after_listings mapping who users ys (after_listings mapping who users xs best)
after_listings-append mapping who users [] ys best = refl
after_listings-append mapping who users (x ∷ xs) ys best = after_listings-append mapping who users xs ys (after_listing mapping who users x best)

-- ---- claims that don't win

-- the claim of so many literals, of the user at a place, is not better than the best
abbrev pub IsBeaten : ℕ → ℕ → Option Winner → Type 0
IsBeaten l p None = ⊥
IsBeaten l p (Some best) = (l < best.literals) ⊎ ((l ≡ best.literals) × (best.place ≤ p))

better_true : (l p : ℕ) (b : Winner) → is_better l p (Some b) ≡ true → (b.literals < l) ⊎ ((l ≡ b.literals) × (p < b.place))
better_true l p b e = by (nat_lt b.literals l) refl (l == b.literals) refl e
  where
    by : (s : Bool) → nat_lt b.literals l ≡ s → (t : Bool) → (l == b.literals) ≡ t → (s || (t && nat_lt p b.place)) ≡ true
        → (b.literals < l) ⊎ ((l ≡ b.literals) × (p < b.place))
    by true s t f e = inl (ltb-true b.literals l s)
    by false s true f e = inr (eqb-true l b.literals f, ltb-true p b.place e)
    by false s false f e = cc

better_false : (l p : ℕ) (best : Option Winner) → is_better l p best ≡ false → IsBeaten l p best
better_false l p None e = cc
better_false l p (Some b) e = by (nat_lt b.literals l) refl (l == b.literals) refl e
  where
    by : (s : Bool) → nat_lt b.literals l ≡ s → (t : Bool) → (l == b.literals) ≡ t → (s || (t && nat_lt p b.place)) ≡ false
        → (l < b.literals) ⊎ ((l ≡ b.literals) × (b.place ≤ p))
    by true s t f e = cc
    by false s true f e = inr (eqb-true l b.literals f, ltb-false p b.place e)
    by false s false f e = elim (cases_lt l b.literals) [ inl lt ↦ inl lt | inr ge ↦ absurd (same ge) ]
      where
        same : b.literals ≤ l → ⊥
        same ge =
            let at : l ≡ b.literals = omega (arith, ltb-false b.literals l s) in
            true≢false (sym ((Decides-eqb l b.literals).1 at) ∙ f)

-- a claim that is beaten stays so
beaten-after_listing : (mapping : Casemapping) (who : List ℕ) (users : List User) (x : Listing) (l p : ℕ) (best : Option Winner) → IsBeaten l p best
    → IsBeaten l p (after_listing mapping who users x best)
beaten-after_listing mapping who users x l p None h = absurd h
beaten-after_listing mapping who users x l p (Some b) h = by (may_win who x (Some b) && has_match mapping who x (slice_get users x.place)) refl
  where
    by : (c : Bool) → (may_win who x (Some b) && has_match mapping who x (slice_get users x.place)) ≡ c
        → IsBeaten l p (cond c (Some (record { literals = x.literals; place = x.place })) (Some b))
    by false e = h
    by true e = elim (better_true x.literals x.place b (and_true (and_true e).0).1) [ inl more ↦ inl (most more h) | inr tie ↦ late tie h ]
      where
        most : b.literals < x.literals → ((l < b.literals) ⊎ ((l ≡ b.literals) × (b.place ≤ p))) → l < x.literals
        most more (inl lt) = omega (arith, more, lt)
        most more (inr eq) = omega (arith, more, eq.0)

        late : ((x.literals ≡ b.literals) × (x.place < b.place)) → ((l < b.literals) ⊎ ((l ≡ b.literals) × (b.place ≤ p)))
            → (l < x.literals) ⊎ ((l ≡ x.literals) × (x.place ≤ p))
        late tie (inl lt) = inl (omega (arith, tie.0, lt))
        late tie (inr eq) = inr (omega (arith, tie.0, eq.0), omega (arith, tie.1, eq.1))

beaten-after_listings : (mapping : Casemapping) (who : List ℕ) (users : List User) (xs : List Listing) (l p : ℕ) (best : Option Winner) → IsBeaten l p best
    → IsBeaten l p (after_listings mapping who users xs best)
beaten-after_listings mapping who users [] l p best h = h
beaten-after_listings mapping who users (x ∷ xs) l p best h =
    beaten-after_listings mapping who users xs l p (after_listing mapping who users x best) (beaten-after_listing mapping who users x l p best h)

-- a mask is one of its listing's
of_listing : (n : ℕ) (m : List ℕ) → is_of (listing_of n m) m ≡ true
of_listing n m = and_both ((Decides-eqb (literals m) (literals m)).1 refl) (same_pairs-self (mask_pairs m))

-- the listings of those that match stand among these
abbrev pub AreListed : Casemapping → List ℕ → ℕ → List Listing → List (List ℕ) → Type 0
AreListed mapping who n xs [] = Unit {0}
AreListed mapping who n xs (m ∷ ms) = (is_match mapping m who ≡ true → IsIn (listing_of n m) xs) × AreListed mapping who n xs ms

-- a mask that matches is beaten once its listing was looked at
beaten_at : (mapping : Casemapping) (who : List ℕ) (users : List User) (n : ℕ) (m : List ℕ) (best : Option Winner) → is_match mapping m who ≡ true
    → has_match mapping who (listing_of n m) (slice_get users n) ≡ true → IsBeaten (literals m) n (after_listing mapping who users (listing_of n m) best)
beaten_at mapping who users n m best hit found = by (is_better (literals m) n best) refl
  where
    by : (c : Bool) → is_better (literals m) n best ≡ c
        → IsBeaten (literals m) n (cond (may_win who (listing_of n m) best && has_match mapping who (listing_of n m) (slice_get users n))
        (Some (record { literals = literals m; place = n })) best)
    by true e = rw (match_pairs mapping m who hit, e, found) (inr (refl, omega arith))
    by false e = rw (match_pairs mapping m who hit, e) (better_false (literals m) n best e)

-- each mask that matches is beaten
abbrev pub AreBeaten : Casemapping → List ℕ → ℕ → List (List ℕ) → Option Winner → Type 0
AreBeaten mapping who n [] best = Unit {0}
AreBeaten mapping who n (m ∷ ms) best = (is_match mapping m who ≡ true → IsBeaten (literals m) n best) × AreBeaten mapping who n ms best

-- and so it is wherever its listing stands
listing_beaten : (mapping : Casemapping) (who : List ℕ) (users : List User) (xs : List Listing) (n : ℕ) (m : List ℕ) (best : Option Winner) → IsIn (listing_of n m) xs
    → is_match mapping m who ≡ true → has_match mapping who (listing_of n m) (slice_get users n) ≡ true
    → IsBeaten (literals m) n (after_listings mapping who users xs best)
listing_beaten mapping who users [] n m best among hit found = absurd among
listing_beaten mapping who users (x ∷ xs) n m best (inr later) hit found = listing_beaten mapping who users xs n m (after_listing mapping who users x best) later hit found
listing_beaten mapping who users (x ∷ xs) n m best (inl same) hit found =
    beaten-after_listings mapping who users xs (literals m) n (after_listing mapping who users x best)
    (subst (λ y. IsBeaten (literals m) n (after_listing mapping who users y best)) (sym same) (beaten_at mapping who users n m best hit found))

-- the masks of a user are beaten whose listings stand among those that are looked at, where their masks match
pub user_beaten : (mapping : Casemapping) (who : List ℕ) (users : List User) (xs : List Listing) (n : ℕ) (u : User) (best : Option Winner) → slice_get users n ≡ Some u
    → (ms : List (List ℕ)) → AreListed mapping who n xs ms → ((x : Listing) → list_any (λ k. is_of x k && is_match mapping k who) ms ≡ true → has_match mapping who x (Some u) ≡ true)
    → AreBeaten mapping who n ms (after_listings mapping who users xs best)
user_beaten mapping who users xs n u best at [] among f = tt
user_beaten mapping who users xs n u best at (m ∷ ms) among f = (
  λ hit. listing_beaten mapping who users xs n m best (among.0 hit) hit
      (ap (has_match mapping who (listing_of n m)) at ∙ f (listing_of n m) (rw (of_listing n m, hit) refl)),
  user_beaten mapping who users xs n u best at ms among.1 (λ x some. f x (or_right (is_of x m && is_match mapping m who) _ some)),
)

-- ---- where the best claim is from

-- one of the masks matches, with so many literals
abbrev pub has_claim : Casemapping → List ℕ → ℕ → List (List ℕ) → Bool
has_claim mapping who l ms = list_any (λ m. is_match mapping m who && (literals m == l)) ms

-- the best claim is that of a user's mask
abbrev pub IsClaim : Casemapping → List ℕ → List User → Option Winner → Type 0
IsClaim mapping who users None = Unit {0}
IsClaim mapping who users (Some best) = (u : User) × ((slice_get users best.place ≡ Some u) × (has_claim mapping who best.literals u.masks ≡ true))

-- a match of a listing's mask is such a claim
match_claims : (mapping : Casemapping) (who : List ℕ) (x : Listing) (ms : List (List ℕ)) → list_any (λ m. is_of x m && is_match mapping m who) ms ≡ true
    → has_claim mapping who x.literals ms ≡ true
match_claims mapping who x [] e = cc
match_claims mapping who x (m ∷ ms) e = by (is_of x m && is_match mapping m who) refl e (match_claims mapping who x ms)
  where
    by : (b : Bool) → (is_of x m && is_match mapping m who) ≡ b → (b || list_any (λ k. is_of x k && is_match mapping k who) ms) ≡ true
        → (list_any (λ k. is_of x k && is_match mapping k who) ms ≡ true → has_claim mapping who x.literals ms ≡ true)
        → ((is_match mapping m who && (literals m == x.literals)) || has_claim mapping who x.literals ms) ≡ true
    by true f e rest =
        let hit : is_match mapping m who ≡ true = (and_true f).1 in
        let as_many : (literals m == x.literals) ≡ true = (and_true (and_true f).0).0 in
        rw (hit, as_many) refl
    by false f e rest = or_right (is_match mapping m who && (literals m == x.literals)) _ (rest e)

claim-after_listing : (mapping : Casemapping) (who : List ℕ) (users : List User) (x : Listing) (best : Option Winner) → IsClaim mapping who users best
    → IsClaim mapping who users (after_listing mapping who users x best)
claim-after_listing mapping who users x best h = by (may_win who x best && has_match mapping who x (slice_get users x.place)) refl
  where
    of : (o : Option User) → slice_get users x.place ≡ o → has_match mapping who x o ≡ true
        → (u : User) × ((slice_get users x.place ≡ Some u) × (has_claim mapping who x.literals u.masks ≡ true))
    of None at found = absurd (true≢false (sym found))
    of (Some u) at found = (u, (at, match_claims mapping who x u.masks found))

    by : (c : Bool) → (may_win who x best && has_match mapping who x (slice_get users x.place)) ≡ c
        → IsClaim mapping who users (cond c (Some (record { literals = x.literals; place = x.place })) best)
    by false e = h
    by true e = of (slice_get users x.place) refl (and_true e).1

pub claim-after_listings : (mapping : Casemapping) (who : List ℕ) (users : List User) (xs : List Listing) (best : Option Winner) → IsClaim mapping who users best
    → IsClaim mapping who users (after_listings mapping who users xs best)
claim-after_listings mapping who users [] best h = h
claim-after_listings mapping who users (x ∷ xs) best h = claim-after_listings mapping who users xs (after_listing mapping who users x best) (claim-after_listing mapping who users x best h)

-- ---- the best of all claims decides

-- each mask of each of these users, from this place on, is beaten
abbrev pub UsersBeaten : Casemapping → List ℕ → ℕ → List User → Option Winner → Type 0
UsersBeaten mapping who n [] best = Unit {0}
UsersBeaten mapping who n (u ∷ us) best = AreBeaten mapping who n u.masks best × UsersBeaten mapping who (suc n) us best

abbrev Within : ℕ → List Claim → Type 0
Within l [] = Unit {0}
Within l (c ∷ cs) = (c.literals ≤ l) × Within l cs

abbrev Below : ℕ → List Claim → Type 0
Below l [] = Unit {0}
Below l (c ∷ cs) = (c.literals < l) × Below l cs

abbrev HasOf : ℕ → List Claim → Type 0
HasOf l [] = ⊥
HasOf l (c ∷ cs) = (c.literals ≡ l) ⊎ HasOf l cs

abbrev AreOf : User → List Claim → Type 0
AreOf u [] = Unit {0}
AreOf u (c ∷ cs) = (c.user ≡ u) × AreOf u cs

within-append : (l : ℕ) (cs ds : List Claim) → Within l cs → Within l ds → Within l (cs ++ ds)
within-append l [] ds h g = g
within-append l (c ∷ cs) ds h g = (h.0, within-append l cs ds h.1 g)

most-within : (l : ℕ) (cs : List Claim) → Within l cs → is_most l cs ≡ true
most-within l [] h = refl
most-within l (c ∷ cs) h =
    let le : c.literals ≤ l = h.0 in
    let test : nat_le c.literals l ≡ true = grind (arith, nat_tests) in
    ap (λ b. b && is_most l cs) test ∙ most-within l cs h.1

has-append : (l : ℕ) (cs ds : List Claim) → HasOf l ds → HasOf l (cs ++ ds)
has-append l [] ds h = h
has-append l (c ∷ cs) ds h = inr (has-append l cs ds h)

not_most : (l k : ℕ) (cs : List Claim) → k < l → HasOf l cs → is_most k cs ≡ false
not_most l k [] lt h = absurd h
not_most l k (c ∷ cs) lt (inr later) = by (nat_le c.literals k) (not_most l k cs lt later)
  where
    by : (t : Bool) → is_most k cs ≡ false → (t && is_most k cs) ≡ false
    by true e = e
    by false e = refl
not_most l k (c ∷ cs) lt (inl same) =
    let over : k < c.literals = omega (arith, same, lt) in
    let test : nat_le c.literals k ≡ false = grind (arith, nat_tests) in
    ap (λ b. b && is_most k cs) test

-- a user decides who has one of the largest claims, and who is the first of those with any
first_decides : (l : ℕ) (u : User) (cs ds : List Claim) → AreOf u cs → HasOf l cs → Within l (cs ++ ds) → decider (cs ++ ds) ≡ Some u
unfolding decider
first_decides l u [] ds of has within = absurd has
first_decides l u (c ∷ cs) ds of has within = by (is_most c.literals (cs ++ ds)) refl has (λ later. first_decides l u cs ds of.1 later within.1)
  where
    by : (b : Bool) → is_most c.literals (cs ++ ds) ≡ b → ((c.literals ≡ l) ⊎ HasOf l cs) → (HasOf l cs → decider (cs ++ ds) ≡ Some u)
        → cond b (Some c.user) (decider (cs ++ ds)) ≡ Some u
    by true e h rest = ap (λ v. Some v) of.0
    by false e (inr later) rest = rest later
    by false e (inl same) rest = absurd (true≢false (sym (most-within l (cs ++ ds) within.1) ∙ ap (λ k. is_most k (cs ++ ds)) (sym same) ∙ e))

-- and users decide nothing whose claims are all smaller than a later one
later_decides : (l : ℕ) (cs ds : List Claim) → Below l cs → HasOf l ds → decider (cs ++ ds) ≡ decider ds
unfolding decider
later_decides l [] ds below has = refl
later_decides l (c ∷ cs) ds below has =
    ap (λ b. cond b (Some c.user) (decider (cs ++ ds))) (not_most l c.literals (cs ++ ds) below.0 (has-append l cs ds has))
    ∙ later_decides l cs ds below.1 has

-- ---- the claims of users

module _ (mapping : Casemapping) (who : List ℕ) (u : User) where
  of_user : (ms : List (List ℕ)) → AreOf u (claims_of mapping who u ms)
  of_user [] = tt
  of_user (m ∷ ms) = by (is_match mapping m who) (of_user ms)
    where
      by : (b : Bool) → AreOf u (claims_of mapping who u ms)
          → AreOf u (map (λ mask. claim (literals mask) u) (cond b (m ∷ filter (λ mask. is_match mapping mask who) ms) (filter (λ mask. is_match mapping mask who) ms)))
      by true r = (refl, r)
      by false r = r

  has_of : (l : ℕ) (ms : List (List ℕ)) → has_claim mapping who l ms ≡ true → HasOf l (claims_of mapping who u ms)
  has_of l [] e = cc
  has_of l (m ∷ ms) e = by (is_match mapping m who) (literals m == l) refl e (has_of l ms)
    where
      by : (b t : Bool) → (literals m == l) ≡ t → ((b && t) || has_claim mapping who l ms) ≡ true → (has_claim mapping who l ms ≡ true → HasOf l (claims_of mapping who u ms))
          → HasOf l (map (λ mask. claim (literals mask) u) (cond b (m ∷ filter (λ mask. is_match mapping mask who) ms) (filter (λ mask. is_match mapping mask who) ms)))
      by true true f e r = inl (eqb-true (literals m) l f)
      by true false f e r = inr (r e)
      by false t f e r = r e

  within_of : (n : ℕ) (best : Winner) (ms : List (List ℕ)) → AreBeaten mapping who n ms (Some best) → Within best.literals (claims_of mapping who u ms)
  within_of n best [] h = tt
  within_of n best (m ∷ ms) h = by (is_match mapping m who) refl (within_of n best ms h.1)
    where
      le : IsBeaten (literals m) n (Some best) → literals m ≤ best.literals
      le (inl lt) = omega (arith, lt)
      le (inr eq) = omega (arith, eq.0)

      by : (b : Bool) → is_match mapping m who ≡ b → Within best.literals (claims_of mapping who u ms)
          → Within best.literals
          (map (λ mask. claim (literals mask) u) (cond b (m ∷ filter (λ mask. is_match mapping mask who) ms) (filter (λ mask. is_match mapping mask who) ms)))
      by true e r = (le (h.0 e), r)
      by false e r = r

  below_of : (n : ℕ) (best : Winner) (ms : List (List ℕ)) → n < best.place → AreBeaten mapping who n ms (Some best) → Below best.literals (claims_of mapping who u ms)
  below_of n best [] before h = tt
  below_of n best (m ∷ ms) before h = by (is_match mapping m who) refl (below_of n best ms before h.1)
    where
      less : IsBeaten (literals m) n (Some best) → literals m < best.literals
      less (inl fewer) = fewer
      less (inr eq) = absurd (omega (arith, eq.1, before))

      by : (b : Bool) → is_match mapping m who ≡ b → Below best.literals (claims_of mapping who u ms)
          → Below best.literals
          (map (λ mask. claim (literals mask) u) (cond b (m ∷ filter (λ mask. is_match mapping mask who) ms) (filter (λ mask. is_match mapping mask who) ms)))
      by true e r = (less (h.0 e), r)
      by false e r = r

  none_of : (n : ℕ) (ms : List (List ℕ)) → AreBeaten mapping who n ms None → claims_of mapping who u ms ≡ []
  none_of n [] h = refl
  none_of n (m ∷ ms) h = by (is_match mapping m who) refl (none_of n ms h.1)
    where
      by : (b : Bool) → is_match mapping m who ≡ b → claims_of mapping who u ms ≡ []
          → map (λ mask. claim (literals mask) u) (cond b (m ∷ filter (λ mask. is_match mapping mask who) ms) (filter (λ mask. is_match mapping mask who) ms)) ≡ []
      by true e r = absurd (h.0 e)
      by false e r = r

claims_within : (mapping : Casemapping) (who : List ℕ) (n : ℕ) (best : Winner) (us : List User) → UsersBeaten mapping who n us (Some best) → Within best.literals (claims mapping who us)
claims_within mapping who n best [] h = tt
claims_within mapping who n best (u ∷ us) h = within-append best.literals (claims_of mapping who u u.masks) (claims mapping who us) (within_of mapping who u n best u.masks h.0)
    (claims_within mapping who (suc n) best us h.1)

claims_have : (mapping : Casemapping) (who : List ℕ) (l : ℕ) (us : List User) (i : ℕ) (u : User) → slice_get us i ≡ Some u → has_claim mapping who l u.masks ≡ true
    → HasOf l (claims mapping who us)
claims_have mapping who l [] i u at has = cc
claims_have mapping who l (x ∷ us) zero u at has =
    let same : x ≡ u = cc in
    in_front (claims_of mapping who x x.masks) (has_of mapping who x l x.masks (ap (λ (v : User). has_claim mapping who l v.masks) same ∙ has))
  where
    in_front : (cs : List Claim) → HasOf l cs → HasOf l (cs ++ claims mapping who us)
    in_front [] h = absurd h
    in_front (c ∷ cs) (inl same) = inl same
    in_front (c ∷ cs) (inr later) = inr (in_front cs later)
claims_have mapping who l (x ∷ us) (suc i) u at has = has-append l (claims_of mapping who x x.masks) (claims mapping who us) (claims_have mapping who l us i u at has)

wins : (mapping : Casemapping) (who : List ℕ) (best : Winner) (us : List User) (n i : ℕ) (u : User) → slice_get us i ≡ Some u → best.place ≡ i + n
    → has_claim mapping who best.literals u.masks ≡ true → UsersBeaten mapping who n us (Some best) → decider (claims mapping who us) ≡ Some u
wins mapping who best [] n i u at place has h = cc
wins mapping who best (x ∷ us) n zero u at place has h =
    let same : x ≡ u = cc in
    first_decides best.literals x (claims_of mapping who x x.masks) (claims mapping who us) (of_user mapping who x x.masks)
    (has_of mapping who x best.literals x.masks (ap (λ (v : User). has_claim mapping who best.literals v.masks) same ∙ has))
    (within-append best.literals (claims_of mapping who x x.masks) (claims mapping who us) (within_of mapping who x n best x.masks h.0) (claims_within mapping who (suc n) best us h.1))
    ∙ ap (λ v. Some v) same
wins mapping who best (x ∷ us) n (suc i) u at place has h =
    later_decides best.literals (claims_of mapping who x x.masks) (claims mapping who us) (below_of mapping who x n best x.masks (omega (arith, place)) h.0)
    (claims_have mapping who best.literals us i u at has)
    ∙ wins mapping who best us (suc n) i u at (omega (arith, place)) has h.1

nobody : (mapping : Casemapping) (who : List ℕ) (us : List User) (n : ℕ) → UsersBeaten mapping who n us None → claims mapping who us ≡ []
nobody mapping who [] n h = refl
nobody mapping who (u ∷ us) n h = ap (λ cs. cs ++ claims mapping who us) (none_of mapping who u n u.masks h.0) ∙ nobody mapping who us (suc n) h.1

-- where the best claim is a user's, and all are beaten by it, it is that of who the person is
pub best-user_for : (mapping : Casemapping) (who : List ℕ) (users : List User) (best : Option Winner) → UsersBeaten mapping who 0 users best → IsClaim mapping who users best
    → user_at users best ≡ user_for mapping who users
unfolding decider
best-user_for mapping who users None h is = sym (ap decider (nobody mapping who users 0 h))
best-user_for mapping who users (Some best) h is = is.1.0 ∙ sym (wins mapping who best users 0 best.place is.0 is.1.0 (omega arith) is.1.1 h)
