-- The table of lower cases agrees with the rule at each of the 256 bytes.
use Rattle.std.proofs.Common.{◌≡◌, ℕ, ◌<◌, Bool, true, false, ◌&&◌, zero, suc, eqb, refl, ◌∙◌, ap, arith, get_or, ◌⊎◌, inl, inr}
use Rattle.std.proofs.lemmas.Bool.{eqb-true}
use Rattle.rfccase.specs.Casemapping.{low}
use Rattle.rfccase.specs.Table.{lower_cases}

-- the test at each number below n
abbrev all_below : (ℕ → Bool) → ℕ → Bool
all_below test zero = true
all_below test (suc n) = test n && all_below test n

-- computed by the checker, entry for entry
every_byte : all_below (λ b. eqb (low b) (get_or lower_cases b 0)) 256 ≡ true
unfolding lower_cases
every_byte = refl

first_of_both : (a b : Bool) → (a && b) ≡ true → a ≡ true
first_of_both true b h = refl
first_of_both false b h = cc

second_of_both : (a b : Bool) → (a && b) ≡ true → b ≡ true
second_of_both true b h = h
second_of_both false b h = cc

last_or_below : (k n : ℕ) → k < suc n → (k ≡ n) ⊎ (k < n)
last_or_below k n h = grind arith

at_each : (test : ℕ → Bool) (n k : ℕ) → all_below test n ≡ true → k < n → test k ≡ true
at_each test zero k all h = absurd (omega arith)
at_each test (suc n) k all h =
    elim (last_or_below k n h) [
      | inl e ↦ ap test e ∙ first_of_both (test n) (all_below test n) all
      | inr lt ↦ at_each test n k (second_of_both (test n) (all_below test n) all) lt
    ]

-- a byte's lower case stands in the table at the byte
pub table-low : (b lower : ℕ) → b < 256 → lower ≡ low b → lower ≡ get_or lower_cases b 0
table-low b lower h is = is ∙ eqb-true _ _ (at_each (λ k. eqb (low k) (get_or lower_cases k 0)) 256 b every_byte h)
