-- Leaves of one net.
use Rattle.std.proofs.Common.{◌≡◌, ◌<◌, ◌+◌, ◌∙◌, ℕ, ◌⊎◌, inl, inr, List, Some, slice_get, length, sym, subst, arith}
use Rattle.std.proofs.lemmas.Bool.{cases_order}
use Rattle.std.proofs.lemmas.Option.{slice_get_within}
use Rattle.promotion.specs.declared.reading.LeafStanding.{LeafStanding}
use Rattle.promotion.specs.Leaves.{AreOfOneNet}

-- the first of them, `count` in number, are of this net
abbrev pub AreSame : List LeafStanding → ℕ → List ℕ → Type 0
AreSame standings count net = (i : ℕ) (one : LeafStanding) → i < count → slice_get standings i ≡ Some one → one.net ≡ net

pub none_yet : (standings : List LeafStanding) (net : List ℕ) → AreSame standings 0 net
none_yet standings net = λ i one below at. absurd (omega (arith, below))

pub one_more : (standings : List LeafStanding) (count : ℕ) (net : List ℕ) (next : LeafStanding) → AreSame standings count net
    → slice_get standings count ≡ Some next → next.net ≡ net → AreSame standings (count + 1) net
one_more standings count net next same at is = λ i one below found. by i one below found (cases_order i count)
  where
    by : (i : ℕ) (one : LeafStanding) → i < count + 1 → slice_get standings i ≡ Some one → (i ≡ count) ⊎ ((i < count) ⊎ (count < i))
        → one.net ≡ net
    by i one below found (inl here) =
        let there : slice_get standings count ≡ Some one = subst (λ k. slice_get standings k ≡ Some one) here found in
        let both : next ≡ one = cc in
        subst (λ (s : LeafStanding). s.net ≡ net) both is
    by i one below found (inr (inl before)) = same i one before found
    by i one below found (inr (inr after)) = absurd (omega (arith, after, below))

pub all_same : (standings : List LeafStanding) (net : List ℕ) → AreSame standings (length standings) net → AreOfOneNet standings
all_same standings net same = λ i j one other at there.
    same i one (slice_get_within standings i one at) at ∙ sym (same j other (slice_get_within standings j other there) there)
