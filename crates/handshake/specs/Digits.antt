-- Hexadecimal digits, in which nonces, numbers of nets and codes are written.
use Rattle.std.specs.Prelude.{ℕ, ◌==◌, ◌&&◌, ◌||◌, nat_le, Bool, List, length, Option, Some, None, if◌then◌else◌}
use Rattle.std.specs.List.{list_all}

-- 0 to 9 and a to f
abbrev pub is_digit : ℕ → Bool
is_digit b = (nat_le 48 b && nat_le b 57) || (nat_le 97 b && nat_le b 102)

-- exactly `count` digits
abbrev pub are_digits : ℕ → List ℕ → Bool
are_digits count word = length word == count && list_all is_digit word

-- the word, if it has exactly `count` digits
abbrev pub digits_in : ℕ → List ℕ → Option (List ℕ)
digits_in count word = if are_digits count word then Some word else None
