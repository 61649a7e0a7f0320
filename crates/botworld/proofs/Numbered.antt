-- Bots that are found to be numbered one by one.
use Rattle.std.proofs.Common.{◌≡◌, ◌↔◌, ℕ, ◌+◌, ◌<◌, ◌≤◌, ◌==◌, Bool, true, false, not, ltb, IsTrue, List, [], ◌∷◌, length, slice_get, Some}
use Rattle.std.proofs.Common.{refl, ap, sym, subst, ◌∙◌, arith, ltb-true, ltb-false, eqb-true, true≢false}
use Rattle.std.proofs.lemmas.Option.{slice_get_within}
use Rattle.botcore.specs.Bots.{Bot}
use Rattle.botworld.specs.Network.{IsNumberedAt, AreNumbered}

-- the bots before a place are numbered
abbrev pub Before : List Bot → ℕ → Type 0
Before bots k = (place : ℕ) (b : Bot) → place < k → slice_get bots place ≡ Some b → IsNumberedAt (length bots) place b

-- and one more
pub numbered_more : (bots : List Bot) (k : ℕ) (x : Bot) → slice_get bots k ≡ Some x → IsNumberedAt (length bots) k x → Before bots k
    → Before bots (k + 1)
numbered_more bots k x at is before place b below here = by (ltb place k) refl
  where
    by : (t : Bool) → ltb place k ≡ t → IsNumberedAt (length bots) place b
    by true e = before place b (ltb-true place k e) here
    by false e =
        let last : k ≡ place = omega (arith, ltb-false place k e, below) in
        let found : Some x ≡ Some b = sym at ∙ ap (slice_get bots) last ∙ here in
        let same : x ≡ b = cc in
        subst (λ (n : ℕ). IsNumberedAt (length bots) n b) last (subst (λ (y : Bot). IsNumberedAt (length bots) k y) same is)

-- all are, where there is one
pub numbered_all : (bots : List Bot) (k : ℕ) (none : Bool) → length bots ≤ k → Before bots k → none ≡ (length bots == 0)
    → IsTrue (not none) ↔ AreNumbered bots
numbered_all [] k true all before e = (λ h. absurd (true≢false (sym h)), λ numbered. absurd (omega (arith, numbered.hub)))
numbered_all [] k false all before e = absurd (true≢false (sym e))
numbered_all (x ∷ bots) k true all before e = absurd (omega (arith, eqb-true (length (x ∷ bots)) 0 (sym e)))
numbered_all (x ∷ bots) k false all before e = (
  λ h. record {
    hub = omega arith;
    each = λ place b at. before place b (omega (arith, slice_get_within (x ∷ bots) place b at, all)) at;
  },
  λ numbered. refl,
)
