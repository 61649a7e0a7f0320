-- Words, and the numbers that they mean.
use Rattle.std.specs.Prelude.{ℕ, ◌+◌, ◌-◌, ◌*◌, ◌^◌, ◌==◌, ◌&&◌, not, Bool, nat_le, nat_lt, List, [], ◌∷◌, length, Option, None, Some, option_and_then}
use Rattle.std.specs.Prelude.{if◌then◌else◌}
use Rattle.std.specs.List.{list_all, slice_split, join_with_byte}

-- the words of a line, separated by single spaces: two spaces have an empty word between them
abbrev pub words_of : List ℕ → List (List ℕ)
words_of line = slice_split (λ b. b == 32) line

-- the words of a rest, if there is a rest
abbrev pub words_in : Option (List ℕ) → List (List ℕ)
words_in None = []
words_in (Some rest) = words_of rest

-- words joined into one line again: the rest of the line, spaces and all
abbrev pub line_of : List (List ℕ) → List ℕ
line_of words = join_with_byte 32 words

-- a word that is missing between two spaces, or at the end
abbrev pub is_empty : List ℕ → Bool
is_empty word = length word == 0

-- a word that takes the rest of the line, and is not empty
abbrev pub rest_of : List (List ℕ) → Option (List ℕ)
rest_of words = if is_empty (line_of words) then None else Some (line_of words)

-- 0 to 9
abbrev pub is_digit : ℕ → Bool
is_digit b = nat_le 48 b && nat_le b 57

-- what digits mean in base ten: each digit counts ten times as much as in the next place
abbrev pub value_of : List ℕ → ℕ
value_of [] = 0
value_of (d ∷ ds) = (d - 48) * 10 ^ length ds + value_of ds

-- a number is one or more digits; leading zeros don't matter
abbrev pub number_of : List ℕ → Option ℕ
number_of word = if not (length word == 0) && list_all is_digit word then Some (value_of word) else None

-- a number below a bound
abbrev pub below : ℕ → ℕ → Option ℕ
below bound n = if nat_lt n bound then Some n else None

abbrev pub number_below : ℕ → List ℕ → Option ℕ
number_below bound word = option_and_then (below bound) (number_of word)
