-- What a server's casemapping makes of people and bans, the casemapping of RFC 2812 makes of them, too.
use Rattle.std.proofs.Common.{◌≡◌, ℕ, Bool, true, false, cond, ◌&&◌, ◌||◌, nat_lt, List, [], ◌∷◌, ◌++◌, map, filter, find, refl, sym, ap, subst, ◌∙◌, None, Some, length, ◌==◌, true≢false}
use Rattle.std.specs.List.{list_any}
use Rattle.std.proofs.lemmas.Bool.{or_right}
use Rattle.rfccase.specs.Casemapping.{is_same_by}
use Rattle.rfccase.specs.declared.casemappings.Casemapping.{Casemapping}
use Rattle.rfccase.specs.declared.casemappings.Casemapping.TheVariants.{Rfc1459}
use Rattle.rfccase.proofs.SameLemmas.{is_same_by-Decides, IsSame-from}
use Rattle.userfile.specs.declared.user.User.{User}
use Rattle.userfile.specs.Hostmasks.{is_match, literals}
use Rattle.userfile.specs.Persons.{Claim, claim, claims_of, claims, is_most, decider, bars, returns_to}
use Rattle.userfile.specs.Widening.{KnownIsWider, StrangersStay, BanIsWider, StickyIsWider}
use Rattle.userfile.proofs.MatchLemmas.{match_wider}
use Rattle.userfile.proofs.RepeatLemmas.{and_true, and_both}

-- ---- whoever is known has a mask that matches

abbrev pub IsMatched : List ℕ → User → Type 0
IsMatched who u = list_any (λ mask. is_match Rfc1459 mask who) u.masks ≡ true

abbrev AllMatched : List ℕ → List Claim → Type 0
AllMatched who [] = Unit {0}
AllMatched who (c ∷ cs) = IsMatched who c.user × AllMatched who cs

matched-append : (who : List ℕ) (cs ds : List Claim) → AllMatched who cs → AllMatched who ds → AllMatched who (cs ++ ds)
matched-append who [] ds h g = g
matched-append who (c ∷ cs) ds h g = (h.0, matched-append who cs ds h.1 g)

matched_of : (mapping : Casemapping) (who : List ℕ) (u : User) (ms : List (List ℕ))
    → (list_any (λ mask. is_match Rfc1459 mask who) ms ≡ true → IsMatched who u) → AllMatched who (claims_of mapping who u ms)
matched_of mapping who u [] inside = tt
matched_of mapping who u (m ∷ ms) inside =
    by (is_match mapping m who) refl (matched_of mapping who u ms (λ later. inside (or_right (is_match Rfc1459 m who) _ later)))
  where
    first : is_match Rfc1459 m who ≡ true → IsMatched who u
    first hit = inside (ap (λ b. b || list_any (λ mask. is_match Rfc1459 mask who) ms) hit)

    by : (b : Bool) → is_match mapping m who ≡ b → AllMatched who (claims_of mapping who u ms)
        → AllMatched who (map (λ mask. claim (literals mask) u)
        (cond b (m ∷ filter (λ mask. is_match mapping mask who) ms) (filter (λ mask. is_match mapping mask who) ms)))
    by true e r = (first (match_wider mapping m who e), r)
    by false e r = r

matched_all : (mapping : Casemapping) (who : List ℕ) (us : List User) → AllMatched who (claims mapping who us)
matched_all mapping who [] = tt
matched_all mapping who (u ∷ us) =
    matched-append who (claims_of mapping who u u.masks) (claims mapping who us) (matched_of mapping who u u.masks (λ some. some))
    (matched_all mapping who us)

decider_matched : (who : List ℕ) (cs : List Claim) (u : User) → AllMatched who cs → decider cs ≡ Some u → IsMatched who u
unfolding decider
decider_matched who [] u all e = cc
decider_matched who (c ∷ cs) u all e = by (is_most c.literals cs) e (decider_matched who cs u all.1)
  where
    by : (b : Bool) → cond b (Some c.user) (decider cs) ≡ Some u → (decider cs ≡ Some u → IsMatched who u) → IsMatched who u
    by true same rest = let is : c.user ≡ u = cc in subst (λ (v : User). IsMatched who v) is all.0
    by false later rest = rest later

pub known-wider : (mapping : Casemapping) → KnownIsWider mapping
known-wider mapping users who u e = decider_matched who (claims mapping who users) u (matched_all mapping who users) e

-- ---- whoever is unknown stays so

append_none : {X : Type 0} (xs ys : List X) → xs ++ ys ≡ [] → (xs ≡ []) × (ys ≡ [])
append_none [] ys e = (refl, e)
append_none (x ∷ xs) ys e = cc

no_claims_of : (mapping : Casemapping) (who : List ℕ) (u : User) (ms : List (List ℕ)) → claims_of Rfc1459 who u ms ≡ []
    → claims_of mapping who u ms ≡ []
no_claims_of mapping who u [] e = refl
no_claims_of mapping who u (m ∷ ms) e = by (is_match Rfc1459 m who) refl e (no_claims_of mapping who u ms)
  where
    still : (b : Bool) → is_match mapping m who ≡ b → is_match Rfc1459 m who ≡ false → claims_of mapping who u ms ≡ []
        → map (λ mask. claim (literals mask) u)
        (cond b (m ∷ filter (λ mask. is_match mapping mask who) ms) (filter (λ mask. is_match mapping mask who) ms)) ≡ []
    still true hit none r = let wide : is_match Rfc1459 m who ≡ true = match_wider mapping m who hit in cc
    still false hit none r = r

    by : (b : Bool) → is_match Rfc1459 m who ≡ b
        → map (λ mask. claim (literals mask) u)
        (cond b (m ∷ filter (λ mask. is_match Rfc1459 mask who) ms) (filter (λ mask. is_match Rfc1459 mask who) ms)) ≡ []
        → (claims_of Rfc1459 who u ms ≡ [] → claims_of mapping who u ms ≡ []) → claims_of mapping who u (m ∷ ms) ≡ []
    by true hit none rest = cc
    by false miss none rest = still (is_match mapping m who) refl miss (rest none)

no_claims : (mapping : Casemapping) (who : List ℕ) (us : List User) → claims Rfc1459 who us ≡ [] → claims mapping who us ≡ []
no_claims mapping who [] e = refl
no_claims mapping who (u ∷ us) e =
    let parts : (claims_of Rfc1459 who u u.masks ≡ []) × (claims Rfc1459 who us ≡ []) =
    append_none (claims_of Rfc1459 who u u.masks) (claims Rfc1459 who us) e in
    ap (λ cs. cs ++ claims mapping who us) (no_claims_of mapping who u u.masks parts.0) ∙ no_claims mapping who us parts.1

decider-none : (cs : List Claim) → decider cs ≡ None → cs ≡ []
unfolding decider
decider-none [] e = refl
decider-none (c ∷ cs) e = by (is_most c.literals cs) refl e (decider-none cs)
  where
    by : (b : Bool) → is_most c.literals cs ≡ b → cond b (Some c.user) (decider cs) ≡ None → (decider cs ≡ None → cs ≡ []) → c ∷ cs ≡ []
    by true most none rest = cc
    by false less none rest = absurd (true≢false (sym (ap (is_most c.literals) (rest none)) ∙ less))

pub strangers-stay : (mapping : Casemapping) → StrangersStay mapping
unfolding decider
strangers-stay mapping users who e = ap decider (no_claims mapping who users (decider-none (claims Rfc1459 who users) e))

-- ---- bans

found-passes : {X : Type 0} (p : X → Bool) (xs : List X) (x : X) → find p xs ≡ Some x → p x ≡ true
found-passes p [] x e = cc
found-passes p (y ∷ ys) x e = by (p y) refl e (found-passes p ys x)
  where
    by : (b : Bool) → p y ≡ b → cond b (Some y) (find p ys) ≡ Some x → (find p ys ≡ Some x → p x ≡ true) → p x ≡ true
    by true passes here rest = let same : y ≡ x = cc in ap p (sym same) ∙ passes
    by false fails later rest = rest later

same-wider : (mapping : Casemapping) (a b : List ℕ) → is_same_by mapping a b ≡ true → is_same_by Rfc1459 a b ≡ true
same-wider mapping a b e = (is_same_by-Decides Rfc1459 a b).1 (IsSame-from mapping a b ((is_same_by-Decides mapping a b).0 e))

there-wider : (mapping : Casemapping) (channel where_of : List ℕ) → (length where_of == 0 || is_same_by mapping channel where_of) ≡ true
    → (length where_of == 0 || is_same_by Rfc1459 channel where_of) ≡ true
there-wider mapping channel where_of e = by (length where_of == 0) e
  where
    by : (b : Bool) → (b || is_same_by mapping channel where_of) ≡ true → (b || is_same_by Rfc1459 channel where_of) ≡ true
    by true e = refl
    by false e = same-wider mapping channel where_of e

pub ban-wider : (mapping : Casemapping) → BanIsWider mapping
ban-wider mapping bans channel who now ban e =
    let all : bars mapping channel who now ban ≡ true = found-passes (bars mapping channel who now) bans ban e in
    let stands : ((length ban.channel == 0 || is_same_by mapping channel ban.channel) && (ban.expires == 0 || nat_lt now ban.expires)) ≡ true = (and_true all).0 in
    and_both (and_both (there-wider mapping channel ban.channel (and_true stands).0) (and_true stands).1) (match_wider mapping ban.mask who (and_true all).1)

pub sticky-wider : (mapping : Casemapping) → StickyIsWider mapping
sticky-wider mapping bans channel mask now ban e =
    let all : returns_to mapping channel mask now ban ≡ true = found-passes (returns_to mapping channel mask now) bans ban e in
    let there : (ban.sticky && (length ban.channel == 0 || is_same_by mapping channel ban.channel)) ≡ true = (and_true (and_true all).0).0 in
    and_both
    (and_both (and_both (and_true there).0 (there-wider mapping channel ban.channel (and_true there).1)) (and_true (and_true all).0).1)
    (same-wider mapping mask ban.mask (and_true all).1)
