-- Words of a line, and the numbers that they mean.
use Rattle.std.specs.Prelude.{ℕ, ◌==◌, not, Bool, List, [], ◌∷◌, drop, Option, None, Some}
use Rattle.std.specs.Prelude.{option_and_then, if◌then◌else◌}
use Rattle.std.specs.List.{prefix_len, take_while}
use Rattle.bytetext.specs.Numerals.{number_from}

-- ---- words

abbrev pub is_space : ℕ → Bool
is_space b = b == 32

abbrev pub is_letter : ℕ → Bool
is_letter b = not (b == 32)

-- a line without the spaces before its first word
abbrev pub after_spaces : List ℕ → List ℕ
after_spaces line = drop (prefix_len is_space line) line

-- the bytes before the first space
abbrev pub word_of : List ℕ → List ℕ
word_of line = take_while is_letter line

-- what follows that word and the spaces after it
abbrev pub rest_of : List ℕ → List ℕ
rest_of line = after_spaces (drop (prefix_len is_letter line) line)

-- ---- numbers

-- a number is one digit or more, below 65,536; leading zeros count for nothing
abbrev pub number_of : List ℕ → Option ℕ
number_of [] = None
number_of (b ∷ bs) = number_from 0 (b ∷ bs)

-- a port is a number other than 0
abbrev pub port_of : List ℕ → Option ℕ
port_of word = option_and_then (λ n. if n == 0 then None else Some n) (number_of word)
