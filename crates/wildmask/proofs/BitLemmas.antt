-- The bits of a set of places.
use Rattle.std.proofs.Common.{◌≡◌, ◌≢◌, ◌↔◌, ◌⊎◌, ℕ, ◌+◌, ◌-◌, ◌*◌, ◌/◌, ◌%◌, ◌^◌, ◌<◌, ◌≤◌, bit_or, sym, subst, ap, ◌∙◌, arith, inl, inr}
use Rattle.std.specs.Int.{bit_at, w128, trailing_zeros}
use Rattle.std.proofs.lemmas.Bool.{cases_eq, cases_lt}
use Rattle.std.proofs.lemmas.Nat.{shr-shr, shr_le}
use Rattle.std.proofs.lemmas.Nat.Bits.{bit_at_set_same, bit_at_set_other, bit_at-zero, bit_at-trailing_zeros, bit_at_above}

-- a place put into a set
pub bit_at-with : (n k q : ℕ) → k < 128 → (bit_at (bit_or n (1 * 2 ^ k % 2 ^ 128)) q ≡ 1) ↔ ((bit_at n q ≡ 1) ⊎ (q ≡ k))
bit_at-with n k q within = elim (cases_eq q k) [ inl same ↦ at_place same | inr other ↦ elsewhere other ]
  where
    at_place : q ≡ k → (bit_at (bit_or n (1 * 2 ^ k % 2 ^ 128)) q ≡ 1) ↔ ((bit_at n q ≡ 1) ⊎ (q ≡ k))
    at_place same = (λ h. inr same, λ h. subst (λ i. bit_at (bit_or n (1 * 2 ^ k % 2 ^ 128)) i ≡ 1) (sym same) (bit_at_set_same w128 n k within))

    elsewhere : q ≢ k → (bit_at (bit_or n (1 * 2 ^ k % 2 ^ 128)) q ≡ 1) ↔ ((bit_at n q ≡ 1) ⊎ (q ≡ k))
    elsewhere other = (
      λ h. inl (sym (bit_at_set_other w128 n k within q other) ∙ h),
      λ h. elim h [ inl on ↦ bit_at_set_other w128 n k within q other ∙ on | inr same ↦ absurd (other same) ],
    )

-- the bits from a place on are those of the number without the lower ones
pub bit_at-shr : (n from i : ℕ) → bit_at (n / 2 ^ from) i ≡ bit_at n (from + i)
bit_at-shr n from i = ap (λ m. m % 2) (shr-shr n from i)

pub bit_at-none : (n from : ℕ) → n / 2 ^ from ≡ 0 → (q : ℕ) → from ≤ q → bit_at n q ≡ 0
bit_at-none n from none q late =
    let at : from + (q - from) ≡ q = omega arith in
    subst (λ i. bit_at n i ≡ 0) at (sym (bit_at-shr n from (q - from)) ∙ ap (λ m. bit_at m (q - from)) none ∙ bit_at-zero (q - from))

-- the first bit from a place on
abbrev pub IsFirst : ℕ → ℕ → ℕ → Type 0
IsFirst n from at = (from ≤ at) × (bit_at n at ≡ 1) × ((q : ℕ) → from ≤ q → q < at → bit_at n q ≡ 0)

first_of_rest : (n from : ℕ) → n < 2 ^ 128 → 0 < n / 2 ^ from
    → (trailing_zeros w128 (n / 2 ^ from) < 128) × (bit_at (n / 2 ^ from) (trailing_zeros w128 (n / 2 ^ from)) ≡ 1)
    × ((i : ℕ) → i < trailing_zeros w128 (n / 2 ^ from) → bit_at (n / 2 ^ from) i ≡ 0)
first_of_rest n from fits some =
    let small : n / 2 ^ from < 2 ^ 128 = omega (arith, shr_le n from) in
    bit_at-trailing_zeros w128 (n / 2 ^ from) some small

pub bit_at-first : (n from : ℕ) → n < 2 ^ 128 → 0 < n / 2 ^ from → IsFirst n from (from + trailing_zeros w128 (n / 2 ^ from))
bit_at-first n from fits some =
    (omega arith, sym (bit_at-shr n from _) ∙ (first_of_rest n from fits some).1, before)
  where
    before : (q : ℕ) → from ≤ q → q < from + trailing_zeros w128 (n / 2 ^ from) → bit_at n q ≡ 0
    before q late early =
        let at : from + (q - from) ≡ q = omega arith in
        subst (λ i. bit_at n i ≡ 0) at (sym (bit_at-shr n from (q - from)) ∙ (first_of_rest n from fits some).2 (q - from) (omega arith))

-- no number below 2 ^ 128 has a bit from 128 on
pub bit_at-first-below : (n from : ℕ) → n < 2 ^ 128 → 0 < n / 2 ^ from → from + trailing_zeros w128 (n / 2 ^ from) < 128
bit_at-first-below n from fits some = elim (cases_lt (from + trailing_zeros w128 (n / 2 ^ from)) 128) [
  | inl below ↦ below
  | inr above ↦ absurd (omega (arith, bit_at_above n 128 _ fits above, (bit_at-first n from fits some).1))
]
