-- Which claim decides, by its place among all.
use Rattle.std.proofs.Common.{◌≡◌, ℕ, zero, suc, ◌<◌, ◌≤◌, ◌⊎◌, inl, inr, nat_le, Bool, true, false, cond, ◌&&◌, List, [], ◌∷◌, refl, sym, ap, subst, ◌∙◌}
use Rattle.std.proofs.Common.{arith, None, Some, slice_get, true≢false}
use Rattle.std.proofs.lemmas.Bool.{cases_lt, and_parts}
use Rattle.std.proofs.lemmas.Bool.Decides.{nat_tests}
use Rattle.userfile.specs.declared.user.User.{User}
use Rattle.userfile.specs.Persons.{Claim, claims, is_most, decider, handle_of, handle_or_star, IsDecider, IsHandleFor}
use Rattle.rfccase.specs.declared.casemappings.Casemapping.{Casemapping}

-- a test of all claims is a fact of each
is_most-at : (n : ℕ) (cs : List Claim) (j : ℕ) (c : Claim) → is_most n cs ≡ true → slice_get cs j ≡ Some c → c.literals ≤ n
is_most-at n [] j c most at = cc
is_most-at n (x ∷ xs) zero c most at =
    let first : nat_le x.literals n ≡ true = (and_parts _ _ most).0 in
    let same : x ≡ c = cc in
    let small : x.literals ≤ n = grind (arith, nat_tests) in
    subst (λ (d : Claim). d.literals ≤ n) same small
is_most-at n (x ∷ xs) (suc j) c most at = is_most-at n xs j c (and_parts _ _ most).1 at

-- and the other way round
is_most-all : (n : ℕ) (cs : List Claim) → ((j : ℕ) (c : Claim) → slice_get cs j ≡ Some c → c.literals ≤ n) → is_most n cs ≡ true
is_most-all n [] all = refl
is_most-all n (x ∷ xs) all =
    let first : x.literals ≤ n = all 0 x refl in
    let test : nat_le x.literals n ≡ true = grind (arith, nat_tests) in
    ap (λ b. b && is_most n xs) test ∙ is_most-all n xs (λ j c at. all (suc j) c at)

abbrev Decided : List Claim → Type 0
Decided cs = ((cs ≡ []) × (decider cs ≡ None)) ⊎ ((k : ℕ) × ((c : Claim) × (IsDecider cs k c × (decider cs ≡ Some c.user))))

-- the claim of a decider is among the largest
decider-most : (cs : List Claim) (k : ℕ) (c : Claim) → IsDecider cs k c → (j : ℕ) (other : Claim) → slice_get cs j ≡ Some other
    → other.literals ≤ c.literals
decider-most cs k c d j other at = elim
    (cases_lt j k) [
      | inl below ↦ (let lt = d.before j other below at in omega arith)
      | inr above ↦ elim
          (cases_lt k j) [ inl behind ↦ d.behind j other behind at | inr same ↦ here same above ]
    ]
  where
    here : j ≤ k → k ≤ j → other.literals ≤ c.literals
    here le ge =
        let e : j ≡ k = omega arith in
        let both : Some other ≡ Some c = sym at ∙ ap (slice_get cs) e ∙ d.here in
        let same : other ≡ c = cc in
        let literals : other.literals ≡ c.literals = ap (λ (x : Claim). x.literals) same in
        omega arith

pub decided : (cs : List Claim) → Decided cs
unfolding decider
decided [] = inl (refl, refl)
decided (c ∷ cs) = by (is_most c.literals cs) refl (decided cs)
  where
    first : is_most c.literals cs ≡ true → IsDecider (c ∷ cs) 0 c
    first most = record { here = refl; before = λ j other lt at. absurd (omega arith); behind = λ j other lt at. behind j other lt at }
      where
        behind : (j : ℕ) (other : Claim) → 0 < j → slice_get (c ∷ cs) j ≡ Some other → other.literals ≤ c.literals
        behind zero other lt at = absurd (omega arith)
        behind (suc j) other lt at = is_most-at c.literals cs j other most at

    later : is_most c.literals cs ≡ false → (k : ℕ) (d : Claim) → IsDecider cs k d → IsDecider (c ∷ cs) (suc k) d
    later few k d is = record { here = is.here; before = λ j other lt at. before j other lt at; behind = λ j other lt at. behind j other lt at }
      where
        more : c.literals < d.literals
        more = elim (cases_lt c.literals d.literals) [
          | inl lt ↦ lt
          | inr ge ↦ absurd
              (true≢false (sym (is_most-all c.literals cs (λ j other at. omega (arith, decider-most cs k d is j other at))) ∙ few))
        ]

        before : (j : ℕ) (other : Claim) → j < suc k → slice_get (c ∷ cs) j ≡ Some other → other.literals < d.literals
        before zero other lt at =
            let same : c ≡ other = cc in
            let literals : c.literals ≡ other.literals = ap (λ (x : Claim). x.literals) same in
            omega (arith, more)
        before (suc j) other lt at = is.before j other (omega arith) at

        behind : (j : ℕ) (other : Claim) → suc k < j → slice_get (c ∷ cs) j ≡ Some other → other.literals ≤ d.literals
        behind zero other lt at = absurd (omega arith)
        behind (suc j) other lt at = is.behind j other (omega arith) at

    none : is_most c.literals cs ≡ false → cs ≡ [] → ⊥
    none few empty = true≢false (sym (ap (is_most c.literals) empty) ∙ few)

    by : (b : Bool) → is_most c.literals cs ≡ b → Decided cs
        → (((c ∷ cs) ≡ []) × (cond b (Some c.user) (decider cs) ≡ None))
        ⊎ ((k : ℕ) × ((d : Claim) × (IsDecider (c ∷ cs) k d × (cond b (Some c.user) (decider cs) ≡ Some d.user))))
    by true e rest = inr (0, (c, (first e, refl)))
    by false e (inl r) = absurd (none e r.0)
    by false e (inr r) = inr (suc r.0, (r.1.0, (later e r.0 r.1.0 r.1.1.0, r.1.1.1)))

-- the handle of a person is that of the user whose claim decides
pub handle_of-IsHandleFor : (mapping : Casemapping) (users : List User) (who : List ℕ) → IsHandleFor mapping users who (handle_of mapping users who)
handle_of-IsHandleFor mapping users who = by (decided (claims mapping who users))
  where
    by : Decided (claims mapping who users) → IsHandleFor mapping users who (handle_or_star (decider (claims mapping who users)))
    by (inl r) = inl (r.0, ap handle_or_star r.1)
    by (inr r) = inr (r.0, (r.1.0, (r.1.1.0, ap handle_or_star r.1.1.1)))
