-- Decimal digits, and the numbers below 65,536 that they mean.
use Rattle.std.specs.Prelude.{ℕ, ◌+◌, ◌-◌, ◌*◌, ◌&&◌, Bool, nat_le, nat_lt, List, [], ◌∷◌, Option, None, Some, option_and_then, if◌then◌else◌}

abbrev pub is_digit : ℕ → Bool
is_digit b = nat_le 48 b && nat_le b 57

-- the number with one more digit, if it stays below 65,536
abbrev pub digit_onto : ℕ → ℕ → Option ℕ
digit_onto value b =
    if is_digit b then (if nat_lt (value * 10 + (b - 48)) 65536 then Some (value * 10 + (b - 48)) else None) else None

-- the number with these digits after it
abbrev pub number_from : ℕ → List ℕ → Option ℕ
number_from value [] = Some value
number_from value (b ∷ bs) = option_and_then (λ longer. number_from longer bs) (digit_onto value b)
