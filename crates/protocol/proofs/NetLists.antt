-- The leaves of a net among its ends.
use Rattle.std.proofs.Common.{◌≡◌, ℕ, zero, suc, List, [], ◌∷◌, length, slice_get, slice_set, Some, refl, ap, sym}
use Rattle.protocol.specs.LeafRules.{Leaf}
use Rattle.protocol.specs.Ends.{End, AtLeaf}
use Rattle.protocol.specs.Nets.{leaf_ends}

pub leaf_ends-length : (leaves : List Leaf) → length (leaf_ends leaves) ≡ length leaves
leaf_ends-length [] = refl
leaf_ends-length (leaf ∷ leaves) = ap suc (leaf_ends-length leaves)

pub leaf_ends-set : (leaves : List Leaf) (place : ℕ) (leaf : Leaf)
    → slice_set (leaf_ends leaves) place (AtLeaf leaf) ≡ leaf_ends (slice_set leaves place leaf)
leaf_ends-set [] place leaf = refl
leaf_ends-set (old ∷ leaves) zero leaf = refl
leaf_ends-set (old ∷ leaves) (suc place) leaf = ap (λ ends. AtLeaf old ∷ ends) (leaf_ends-set leaves place leaf)

-- an end among the leaves is a leaf's
pub record IsLeafAt (leaves : List Leaf) (place : ℕ) (end : End) : Type 0 where
  pub leaf : Leaf
  pub at : slice_get leaves place ≡ Some leaf
  pub is : end ≡ AtLeaf leaf

pub leaf_at : (leaves : List Leaf) (place : ℕ) (end : End) → slice_get (leaf_ends leaves) place ≡ Some end → IsLeafAt leaves place end
leaf_at [] place end e = cc
leaf_at (leaf ∷ leaves) zero end e = record { leaf = leaf; at = refl; is = (let same : AtLeaf leaf ≡ end = cc in sym same) }
leaf_at (leaf ∷ leaves) (suc place) end e =
    let found = leaf_at leaves place end e in record { leaf = found.leaf; at = found.at; is = found.is }
