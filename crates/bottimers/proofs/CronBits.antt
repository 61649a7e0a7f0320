-- The bits of a set of numbers.
use Rattle.std.proofs.Common.{◌≡◌, ◌≢◌, ℕ, ◌+◌, ◌-◌, ◌*◌, ◌%◌, ◌^◌, ◌<◌, ◌≤◌, Bool, true, false, ltb, eqb, ◌&&◌, bit_or, arith, ap, ◌∙◌, sym, subst, refl, inl, inr}
use Rattle.std.specs.Int.{w64}
use Rattle.std.proofs.lemmas.Nat.Bits.{bit_at_above, bit_at_set_same, bit_at_set_other, bit_at-pow_other, bit_at-zero}
use Rattle.std.proofs.lemmas.Bool.{cases_eq, and_from, and_right, ne_eqb, lt-ltb, le-leb, eq-eqb}
use Rattle.std.proofs.lemmas.Bool.Decides.{nat_tests}
use Rattle.bottimers.specs.declared.span.Span.{Span}
use Rattle.bottimers.specs.CronSets.{has}
use Rattle.bottimers.specs.CronText.{in_span}

pub has_above : (set k n : ℕ) → set < 2 ^ k → k ≤ n → has set n ≡ false
has_above set k n fits above = ap (λ x. eqb x 1) (bit_at_above set k n fits above)

later_test : (k n : ℕ) → k ≢ n → ltb k n ≡ ltb k (n + 1)
later_test k n ne = grind (arith, nat_tests)

-- one more number of a span
pub has_more : (s : Span) (set n : ℕ) → n < 64 → s.first ≤ n → n ≤ s.last → (n - s.first) % s.step ≡ 0
    → ((k : ℕ) → has set k ≡ (ltb k n && in_span s k)) → (k : ℕ) → has (bit_or set (1 * 2 ^ n % 2 ^ 64)) k ≡ (ltb k (n + 1) && in_span s k)
has_more s set n small above below step so_far k =
    elim (cases_eq k n) [
      | inl same ↦
          let here : has (bit_or set (1 * 2 ^ n % 2 ^ 64)) n ≡ true = ap (λ x. eqb x 1) (bit_at_set_same w64 set n small) in
          let span : in_span s n ≡ true = and_from _ _ (and_from _ _ (le-leb _ _ above) (le-leb _ _ below)) (eq-eqb _ _ step) in
          let both : (ltb n (n + 1) && in_span s n) ≡ true = and_from _ _ (lt-ltb n (n + 1) (omega arith)) span in
          subst (λ j. has (bit_or set (1 * 2 ^ n % 2 ^ 64)) j ≡ (ltb j (n + 1) && in_span s j)) (sym same) (here ∙ sym both)
      | inr other ↦
          ap (λ x. eqb x 1) (bit_at_set_other w64 set n small k other)
          ∙ so_far k
          ∙ ap (λ b. b && in_span s k) (later_test k n other)
    ]

-- and one that is none
pub has_same : (s : Span) (set n : ℕ) → ((n - s.first) % s.step ≡ 0 → ⊥) → ((k : ℕ) → has set k ≡ (ltb k n && in_span s k)) → (k : ℕ)
    → has set k ≡ (ltb k (n + 1) && in_span s k)
has_same s set n step so_far k =
    elim (cases_eq k n) [
      | inl same ↦
          let none : in_span s n ≡ false = and_right _ _ (ne_eqb _ _ step) in
          let both : (ltb n n && in_span s n) ≡ (ltb n (n + 1) && in_span s n) = and_right _ _ none ∙ sym (and_right _ _ none) in
          so_far k ∙ subst (λ j. (ltb j n && in_span s j) ≡ (ltb j (n + 1) && in_span s j)) (sym same) both
      | inr other ↦ so_far k ∙ ap (λ b. b && in_span s k) (later_test k n other)
    ]

-- the bit of Sunday alone, and no bit
pub has_one : (n : ℕ) → has 1 n ≡ eqb n 0
has_one n =
    elim (cases_eq n 0) [
      | inl same ↦ subst (λ k. has 1 k ≡ eqb k 0) (sym same) refl
      | inr other ↦ ap (λ x. eqb x 1) (bit_at-pow_other 0 n other) ∙ sym (ne_eqb n 0 other)
    ]

pub has_none : (n : ℕ) → has 0 n ≡ false
has_none n = ap (λ x. eqb x 1) (bit_at-zero n)

and_true : (a : Bool) → (a && true) ≡ a
and_true true = refl
and_true false = refl

-- the weekday 7 read as 0
module _ (sunday n : ℕ) (in_set : Bool) where
  pub sunday_set : in_set ≡ true → sunday ≡ 1 → has sunday n ≡ (eqb n 0 && in_set)
  sunday_set seven one = ap (λ k. has k n) one ∙ has_one n ∙ sym (and_true (eqb n 0)) ∙ ap (λ b. eqb n 0 && b) (sym seven)

  pub sunday_none : in_set ≡ false → sunday ≡ 0 → has sunday n ≡ (eqb n 0 && in_set)
  sunday_none seven none = ap (λ k. has k n) none ∙ has_none n ∙ sym (and_right (eqb n 0) in_set seven)
