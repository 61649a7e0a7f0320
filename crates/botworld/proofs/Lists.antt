-- Lists with one element set anew.
use Rattle.std.proofs.Common.{◌≡◌, ◌⊎◌, inl, inr, ℕ, zero, suc, List, [], ◌∷◌, ◌++◌, slice_get, slice_set, Some, refl, ap, arith}

-- an element after one was set: the new one, or another that stood there
pub slice_get-set : {X : Type 0} (xs : List X) (i j : ℕ) (x y : X) → slice_get (slice_set xs i x) j ≡ Some y
    → ((j ≡ i) × (x ≡ y)) ⊎ ((j ≡ i → ⊥) × (slice_get xs j ≡ Some y))
slice_get-set [] i j x y e = cc
slice_get-set (z ∷ xs) zero zero x y e = inl (refl, cc)
slice_get-set (z ∷ xs) zero (suc j) x y e = inr ((λ h. cc), e)
slice_get-set (z ∷ xs) (suc i) zero x y e = inr ((λ h. cc), e)
slice_get-set (z ∷ xs) (suc i) (suc j) x y e =
    elim (slice_get-set xs i j x y e) [ inl h ↦ inl (ap suc h.0, h.1) | inr h ↦ inr ((λ k. h.0 (omega (arith, k))), h.1) ]

-- what stands where it was set
pub slice_get-set-same : {X : Type 0} (xs : List X) (i : ℕ) (x y : X) → slice_get xs i ≡ Some x → slice_get (slice_set xs i y) i ≡ Some y
slice_get-set-same [] i x y e = cc
slice_get-set-same (z ∷ xs) zero x y e = refl
slice_get-set-same (z ∷ xs) (suc i) x y e = slice_get-set-same xs i x y e

-- what stands behind the same list is the same
pub same_behind : {X : Type 0} (xs ys zs : List X) → xs ++ ys ≡ xs ++ zs → ys ≡ zs
same_behind [] ys zs e = e
same_behind (x ∷ xs) ys zs e = same_behind xs ys zs cc
