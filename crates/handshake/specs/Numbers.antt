-- Numbers in decimal digits, without leading zeros.
use Rattle.std.specs.Prelude.{ℕ, ◌+◌, ◌-◌, ◌*◌, ◌==◌, nat_lt, List, [], ◌∷◌, decimal, Option, None, Some, option_and_then, if◌then◌else◌}
use Rattle.std.specs.Str.{bytes_eq}
use Rattle.bytetext.specs.Numerals.{is_digit}

-- the number with one more digit, if it stays below 2^32
abbrev pub digit_onto : ℕ → ℕ → Option ℕ
digit_onto value b =
    if is_digit b then (if nat_lt (value * 10 + (b - 48)) 4294967296 then Some (value * 10 + (b - 48)) else None) else None

-- the number with these digits after it
abbrev pub wide_from : ℕ → List ℕ → Option ℕ
wide_from value [] = Some value
wide_from value (b ∷ bs) = option_and_then (λ longer. wide_from longer bs) (digit_onto value b)

abbrev pub as_written : List ℕ → Option ℕ → Option ℕ
as_written word None = None
as_written word (Some value) = if bytes_eq (decimal value) word then Some value else None

-- a number below 4,294,967,296, written without leading zeros
abbrev pub wide_in : List ℕ → Option ℕ
wide_in word = as_written word (wide_from 0 word)

abbrev pub below : ℕ → Option ℕ → Option ℕ
below limit None = None
below limit (Some value) = if nat_lt value limit then Some value else None

-- a number below 65,536
abbrev pub number_in : List ℕ → Option ℕ
number_in word = below 65536 (wide_in word)

abbrev pub from_one : Option ℕ → Option ℕ
from_one None = None
from_one (Some leaf) = if leaf == 0 then None else Some leaf

-- the number of a leaf
abbrev pub leaf_in : List ℕ → Option ℕ
leaf_in word = from_one (number_in word)
