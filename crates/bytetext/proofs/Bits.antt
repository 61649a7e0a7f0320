-- The bits of a number as tests. For callers.
use Rattle.std.proofs.Common.{◌≡◌, ℕ, ◌<◌, eqb, ◌||◌, max, bit_or, ap, ◌∙◌, arith}
use Rattle.std.specs.Int.{bit_at}
use Rattle.std.proofs.lemmas.Bool.Decides.{nat_tests}
use Rattle.std.proofs.lemmas.Nat.Bits.{bit_at_or, bit_at-lt}

either_one : (m n : ℕ) → m < 2 → n < 2 → eqb (max m n) 1 ≡ (eqb m 1 || eqb n 1)
either_one m n small less = grind (arith, nat_tests)

-- a bit is set in `a | b` where it is set in one of both
pub bit_test_or : (a b k : ℕ) → eqb (bit_at (bit_or a b) k) 1 ≡ (eqb (bit_at a k) 1 || eqb (bit_at b k) 1)
bit_test_or a b k = ap (λ n. eqb n 1) (bit_at_or a b k) ∙ either_one _ _ (bit_at-lt a k) (bit_at-lt b k)
