-- Which hostmask decides who a person is: the one that `whois` names for the user.
use Rattle.std.proofs.Common.{◌≡◌, ◌∙◌, ℕ, nat_le, Bool, true, false, not, ◌&&◌, ◌||◌, ◌==◌, cond, List, [], ◌∷◌, map, filter, refl, sym, ap, true≢false, arith, eqb-true, eq-eqb, Some}
use Rattle.std.specs.Prelude.{find, unwrap_or}
use Rattle.std.specs.List.{list_any, list_all}
use Rattle.std.specs.Str.{bytes_eq}
use Rattle.std.proofs.lemmas.Bool.{and_parts, and_from, or_right}
use Rattle.std.proofs.lemmas.Bool.Decides.{nat_tests}
use Rattle.std.proofs.lemmas.List.Folds.{list_all-append}
use Rattle.std.proofs.lemmas.Slice.Eq.{bytes_eq-Decides}
use Rattle.rfccase.specs.declared.casemappings.Casemapping.{Casemapping}
use Rattle.userfile.specs.declared.user.User.{User}
use Rattle.userfile.specs.Hostmasks.{is_match, literals}
use Rattle.userfile.specs.Persons.{Claim, claim, claims_of, claims, is_most, decider}
use Rattle.eggprocs.specs.Laws.{NamesTheDecider}
use Rattle.eggprocs.specs.Whois.{is_under, has_most, deciding_mask}
use Rattle.eggprocs.proofs.Lists.{all-of}

-- ---- numbers

le-same : (n : ℕ) → nat_le n n ≡ true
le-same n = grind (arith, nat_tests)

le-trans : (a b c : ℕ) → nat_le a b ≡ true → nat_le b c ≡ true → nat_le a c ≡ true
le-trans a b c ab bc = grind (arith, nat_tests)

le-other : (a b : ℕ) → nat_le a b ≡ false → nat_le b a ≡ true
le-other a b not_le = grind (arith, nat_tests)

-- ---- the claim that decides

-- a claim of a user, than which none of these claims has more literals, and of which all that holds of each of them holds
record Deciding (cs : List Claim) (user : User) : Type 0 where
  best : Claim
  own : best.user ≡ user
  most : is_most best.literals cs ≡ true
  among : (p : Claim → Bool) → list_all p cs ≡ true → p best ≡ true

deciding : (cs : List Claim) (user : User) → decider cs ≡ Some user → Deciding cs user
unfolding decider
deciding [] user is = cc
deciding (c ∷ cs) user is = by (is_most c.literals cs) refl is (deciding cs user)
  where
    later : is_most c.literals cs ≡ false → Deciding cs user → Deciding (c ∷ cs) user
    later few d = record {
      best = d.best;
      own = d.own;
      most = and_from (nat_le c.literals d.best.literals) (is_most d.best.literals cs) (less (nat_le c.literals d.best.literals) refl) d.most;
      among = λ p all. d.among p (and_parts (p c) (list_all p cs) all).1;
    }
      where
        less : (t : Bool) → nat_le c.literals d.best.literals ≡ t → t ≡ true
        less true e = refl
        less false e = absurd
            (true≢false
            (sym (all-of (λ x. nat_le x.literals d.best.literals) (λ x. nat_le x.literals c.literals) cs
            (λ x le. le-trans x.literals d.best.literals c.literals le (le-other c.literals d.best.literals e)) d.most) ∙ few))

    by : (t : Bool) → is_most c.literals cs ≡ t → cond t (Some c.user) (decider cs) ≡ Some user → (decider cs ≡ Some user → Deciding cs user)
        → Deciding (c ∷ cs) user
    by true most is rest = record {
      best = c;
      own = cc;
      most = and_from (nat_le c.literals c.literals) (is_most c.literals cs) (le-same c.literals) most;
      among = λ p all. (and_parts (p c) (list_all p cs) all).0;
    }
    by false few is rest = later few (rest is)

-- ---- each claim is of a hostmask of its user

-- whether a hostmask matches, and has so many literals
abbrev fits : Casemapping → List ℕ → ℕ → List ℕ → Bool
fits mapping who n mask = is_match mapping mask who && (literals mask == n)

abbrev is_of_mask : Casemapping → List ℕ → Claim → Bool
is_of_mask mapping who c = list_any (fits mapping who c.literals) c.user.masks

own-claims : (mapping : Casemapping) (who : List ℕ) (user : User) (masks : List (List ℕ))
    → ((p : List ℕ → Bool) → list_any p masks ≡ true → list_any p user.masks ≡ true)
    → list_all (is_of_mask mapping who) (claims_of mapping who user masks) ≡ true
own-claims mapping who user [] part = refl
own-claims mapping who user (mask ∷ masks) part =
    by (is_match mapping mask who) refl (own-claims mapping who user masks (λ p any. part p (or_right (p mask) (list_any p masks) any)))
  where
    by : (t : Bool) → is_match mapping mask who ≡ t → list_all (is_of_mask mapping who) (claims_of mapping who user masks) ≡ true
        → list_all (is_of_mask mapping who)
        (map (λ m. claim (literals m) user) (cond t (mask ∷ filter (λ m. is_match mapping m who) masks) (filter (λ m. is_match mapping m who) masks)))
        ≡ true
    by true hit rest =
        let fit : fits mapping who (literals mask) mask ≡ true =
        and_from (is_match mapping mask who) (literals mask == literals mask) hit (eq-eqb (literals mask) (literals mask) refl) in
        and_from (list_any (fits mapping who (literals mask)) user.masks)
        (list_all (is_of_mask mapping who) (claims_of mapping who user masks))
        (part (fits mapping who (literals mask)) (ap (λ (t : Bool). t || list_any (fits mapping who (literals mask)) masks) fit)) rest
    by false miss rest = rest

all-claims : (mapping : Casemapping) (who : List ℕ) (users : List User) → list_all (is_of_mask mapping who) (claims mapping who users) ≡ true
all-claims mapping who [] = refl
all-claims mapping who (user ∷ users) =
    list_all-append (is_of_mask mapping who) (claims_of mapping who user user.masks) (claims mapping who users)
    ∙ and_from (list_all (is_of_mask mapping who) (claims_of mapping who user user.masks)) (list_all (is_of_mask mapping who) (claims mapping who users))
    (own-claims mapping who user user.masks (λ p any. any)) (all-claims mapping who users)

-- ---- the hostmask with most literals

-- a hostmask that matches, than which none of these hostmasks that match has more literals
record Most (mapping : Casemapping) (who : List ℕ) (masks : List (List ℕ)) : Type 0 where
  best : List ℕ
  hit : is_match mapping best who ≡ true
  most : list_all (is_under mapping who (literals best)) masks ≡ true
  among : (p : List ℕ → Bool) → p best ≡ true → list_any p masks ≡ true

under-none : (mapping : Casemapping) (who : List ℕ) (n : ℕ) (masks : List (List ℕ)) → list_any (λ m. is_match mapping m who) masks ≡ false
    → list_all (is_under mapping who n) masks ≡ true
under-none mapping who n [] none = refl
under-none mapping who n (x ∷ xs) none = by (is_match mapping x who) none (under-none mapping who n xs)
  where
    by : (t : Bool) → (t || list_any (λ m. is_match mapping m who) xs) ≡ false
        → (list_any (λ m. is_match mapping m who) xs ≡ false → list_all (is_under mapping who n) xs ≡ true)
        → ((not t || nat_le (literals x) n) && list_all (is_under mapping who n) xs) ≡ true
    by true none rest = cc
    by false none rest = rest none

under-wider : (mapping : Casemapping) (who : List ℕ) (n more : ℕ) → nat_le n more ≡ true → (x : List ℕ) → is_under mapping who n x ≡ true
    → is_under mapping who more x ≡ true
under-wider mapping who n more wider x = by (is_match mapping x who)
  where
    by : (t : Bool) → (not t || nat_le (literals x) n) ≡ true → (not t || nat_le (literals x) more) ≡ true
    by true under = le-trans (literals x) n more under wider
    by false under = refl

most-of : (mapping : Casemapping) (who : List ℕ) (masks : List (List ℕ)) → list_any (λ m. is_match mapping m who) masks ≡ true → Most mapping who masks
most-of mapping who [] any = cc
most-of mapping who (x ∷ xs) any =
    by (is_match mapping x who) (list_any (λ m. is_match mapping m who) xs) refl refl any (most-of mapping who xs)
  where
    here : is_match mapping x who ≡ true → list_all (is_under mapping who (literals x)) xs ≡ true → Most mapping who (x ∷ xs)
    here hit most = record {
      best = x;
      hit = hit;
      most = and_from (is_under mapping who (literals x) x) (list_all (is_under mapping who (literals x)) xs)
          (or_right (not (is_match mapping x who)) (nat_le (literals x) (literals x)) (le-same (literals x))) most;
      among = λ p is. ap (λ (t : Bool). t || list_any p xs) is;
    }

    later : (m : Most mapping who xs) → is_under mapping who (literals m.best) x ≡ true → Most mapping who (x ∷ xs)
    later m under = record {
      best = m.best;
      hit = m.hit;
      most = and_from (is_under mapping who (literals m.best) x) (list_all (is_under mapping who (literals m.best)) xs) under m.most;
      among = λ p is. or_right (p x) (list_any p xs) (m.among p is);
    }

    larger : is_match mapping x who ≡ true → (m : Most mapping who xs) → (t : Bool) → nat_le (literals x) (literals m.best) ≡ t → Most mapping who (x ∷ xs)
    larger hit m true le = later m (or_right (not (is_match mapping x who)) (nat_le (literals x) (literals m.best)) le)
    larger hit m false gt = here hit
        (all-of (is_under mapping who (literals m.best)) (is_under mapping who (literals x)) xs
        (under-wider mapping who (literals m.best) (literals x) (le-other (literals x) (literals m.best) gt)) m.most)

    by : (t some : Bool) → is_match mapping x who ≡ t → list_any (λ m. is_match mapping m who) xs ≡ some → (t || some) ≡ true
        → (some ≡ true → Most mapping who xs) → Most mapping who (x ∷ xs)
    by false some miss rest any more =
        later (more any) (ap (λ (t : Bool). not t || nat_le (literals x) (literals (more any).best)) miss)
    by true false hit none any more = here hit (under-none mapping who (literals x) xs none)
    by true true hit rest any more = let m = more refl in larger hit m (nat_le (literals x) (literals m.best)) refl

-- what is found passes the test, and is in the list
found : (p : List ℕ → Bool) (xs : List (List ℕ)) → list_any p xs ≡ true
    → (p (unwrap_or (find p xs) []) ≡ true) × (list_any (bytes_eq (unwrap_or (find p xs) [])) xs ≡ true)
found p [] any = cc
found p (x ∷ xs) any = by (p x) refl any (found p xs)
  where
    by : (t : Bool) → p x ≡ t → (t || list_any p xs) ≡ true
        → (list_any p xs ≡ true → (p (unwrap_or (find p xs) []) ≡ true) × (list_any (bytes_eq (unwrap_or (find p xs) [])) xs ≡ true))
        → (p (unwrap_or (cond t (Some x) (find p xs)) []) ≡ true) × (list_any (bytes_eq (unwrap_or (cond t (Some x) (find p xs)) [])) (x ∷ xs) ≡ true)
    by true is any rest = (is, ap (λ (t : Bool). t || list_any (bytes_eq x) xs) ((bytes_eq-Decides x x).1 refl))
    by false is any rest = ((rest any).0, or_right (bytes_eq (unwrap_or (find p xs) []) x) (list_any (bytes_eq (unwrap_or (find p xs) [])) xs) (rest any).1)

any-fits : (mapping : Casemapping) (who : List ℕ) (n : ℕ) (xs : List (List ℕ)) → list_any (fits mapping who n) xs ≡ true
    → list_any (λ m. is_match mapping m who) xs ≡ true
any-fits mapping who n [] any = cc
any-fits mapping who n (x ∷ xs) any = by (is_match mapping x who) (literals x == n) any (any-fits mapping who n xs)
  where
    by : (t same : Bool) → (t && same || list_any (fits mapping who n) xs) ≡ true
        → (list_any (fits mapping who n) xs ≡ true → list_any (λ m. is_match mapping m who) xs ≡ true) → (t || list_any (λ m. is_match mapping m who) xs) ≡ true
    by true same any rest = refl
    by false same any rest = rest any

fits-under : (mapping : Casemapping) (who : List ℕ) (n most : ℕ) (xs : List (List ℕ)) → list_any (fits mapping who n) xs ≡ true
    → list_all (is_under mapping who most) xs ≡ true → nat_le n most ≡ true
fits-under mapping who n most [] any all = cc
fits-under mapping who n most (x ∷ xs) any all = by (is_match mapping x who) (literals x == n) refl any all (fits-under mapping who n most xs)
  where
    by : (t same : Bool) → (literals x == n) ≡ same → (t && same || list_any (fits mapping who n) xs) ≡ true
        → ((not t || nat_le (literals x) most) && list_all (is_under mapping who most) xs) ≡ true
        → (list_any (fits mapping who n) xs ≡ true → list_all (is_under mapping who most) xs ≡ true → nat_le n most ≡ true)
        → nat_le n most ≡ true
    by true true same any all rest =
        ap (λ (k : ℕ). nat_le k most) (sym (eqb-true (literals x) n same)) ∙ (and_parts (nat_le (literals x) most) (list_all (is_under mapping who most) xs) all).0
    by true false other any all rest =
        rest any (and_parts (nat_le (literals x) most) (list_all (is_under mapping who most) xs) all).1
    by false same is any all rest = rest any all

-- ---- the hostmask that is named decides

pub names-the-decider : NamesTheDecider
names-the-decider mapping users who user is = (mask.1, (parts.0, most))
  where
    d : Deciding (claims mapping who users) user
    d = deciding (claims mapping who users) user is

    any : list_any (fits mapping who d.best.literals) user.masks ≡ true
    any =
        ap (λ (u : User). list_any (fits mapping who d.best.literals) u.masks) (sym d.own)
        ∙ d.among (is_of_mask mapping who) (all-claims mapping who users)

    m : Most mapping who user.masks
    m = most-of mapping who user.masks (any-fits mapping who d.best.literals user.masks any)

    mask : (has_most mapping who user.masks (deciding_mask mapping who user.masks) ≡ true)
        × (list_any (bytes_eq (deciding_mask mapping who user.masks)) user.masks ≡ true)
    mask = found (has_most mapping who user.masks) user.masks
        (m.among (has_most mapping who user.masks)
        (and_from (is_match mapping m.best who) (list_all (is_under mapping who (literals m.best)) user.masks) m.hit m.most))

    parts : (is_match mapping (deciding_mask mapping who user.masks) who ≡ true)
        × (list_all (is_under mapping who (literals (deciding_mask mapping who user.masks))) user.masks ≡ true)
    parts = and_parts _ _ mask.0

    most : is_most (literals (deciding_mask mapping who user.masks)) (claims mapping who users) ≡ true
    most =
        all-of (λ c. nat_le c.literals d.best.literals) (λ c. nat_le c.literals (literals (deciding_mask mapping who user.masks)))
        (claims mapping who users)
        (λ c le. le-trans c.literals d.best.literals (literals (deciding_mask mapping who user.masks)) le
        (fits-under mapping who d.best.literals (literals (deciding_mask mapping who user.masks)) user.masks any parts.1)) d.most
