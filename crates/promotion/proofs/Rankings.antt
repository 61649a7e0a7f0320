-- The one with the highest version of those that were looked at.
use Rattle.std.proofs.Common.{◌≡◌, ◌<◌, ◌≤◌, ◌+◌, ℕ, ◌⊎◌, inl, inr, List, [], ◌∷◌, None, Some, slice_get, length, refl, subst, arith}
use Rattle.std.proofs.lemmas.Bool.{cases_order}
use Rattle.promotion.specs.declared.reading.LeafStanding.{LeafStanding}
use Rattle.promotion.specs.Leaves.{IsHighestOf}

-- it is the highest of the first of them, and has this version
pub record IsBest (standings : List LeafStanding) (count place version : ℕ) : Type 0 where
  pub top : IsHighestOf standings count place
  pub has : top.one.version ≡ version

pub begins : (standings : List LeafStanding) (one : LeafStanding) → slice_get standings 0 ≡ Some one → IsBest standings 0 0 one.version
begins standings one at = record {
  top = record {
    one = one;
    at = at;
    each = λ i other below is. absurd (omega (arith, below));
    before = λ i other below is. absurd (omega (arith, below));
  };
  has = refl;
}

-- If those before it are at most this high, and so is this one, all are.
each-of : (standings : List LeafStanding) (count highest : ℕ) (next : LeafStanding) → slice_get standings count ≡ Some next → next.version ≤ highest
    → ((i : ℕ) (other : LeafStanding) → i < count → slice_get standings i ≡ Some other → other.version ≤ highest)
    → (i : ℕ) (other : LeafStanding) → i < count + 1 → slice_get standings i ≡ Some other → other.version ≤ highest
each-of standings count highest next at le each i other below is = by (cases_order i count)
  where
    by : (i ≡ count) ⊎ ((i < count) ⊎ (count < i)) → other.version ≤ highest
    by (inl same) =
        let here : slice_get standings count ≡ Some other = subst (λ k. slice_get standings k ≡ Some other) same is in
        let one : next ≡ other = cc in
        subst (λ (s : LeafStanding). s.version ≤ highest) one le
    by (inr (inl before)) = each i other before is
    by (inr (inr after)) = absurd (omega (arith, after, below))

-- one more was looked at, which is higher, or is not
module _ (standings : List LeafStanding) (count place version : ℕ) (next : LeafStanding) (best : IsBest standings count place version)
    (at : slice_get standings count ≡ Some next) where
  pub higher : version < next.version → IsBest standings (count + 1) count next.version
  higher above = record {
    top = record {
      one = next;
      at = at;
      each = each-of standings count next.version next at (omega arith)
          (λ i other before is. omega (arith, best.top.each i other before is, best.has, above));
      before = λ i other before is. omega (arith, best.top.each i other before is, best.has, above);
    };
    has = refl;
  }

  pub no_higher : next.version ≤ version → IsBest standings (count + 1) place version
  no_higher below = record {
    top = record {
      one = best.top.one;
      at = best.top.at;
      each = each-of standings count best.top.one.version next at (omega (arith, below, best.has)) best.top.each;
      before = best.top.before;
    };
    has = best.has;
  }

  -- the same, by the names that a loop has for what it keeps
  pub put_higher : (place' version' : ℕ) → version < next.version → version' ≡ next.version → place' ≡ count
      → IsBest standings (count + 1) place' version'
  put_higher place' version' above is at = rw (is, at) (higher above)

  pub put_no_higher : (place' version' : ℕ) → next.version ≤ version → version' ≡ version → place' ≡ place
      → IsBest standings (count + 1) place' version'
  put_no_higher place' version' below is at = rw (is, at) (no_higher below)

pub no_first : (standings : List LeafStanding) → slice_get standings 0 ≡ None → length standings ≡ 0
no_first [] is = refl
no_first (one ∷ more) is = absurd (cc)
