-- The words of a text of the system.
use Rattle.std.specs.Prelude.{ℕ, ◌+◌, ◌-◌, ◌*◌, ◌==◌, ◌||◌, ◌&&◌, not, nat_le, Bool, false, List, [], ◌∷◌, length, take, drop}
use Rattle.std.specs.Prelude.{Option, None, Some, option_and_then, if◌then◌else◌}
use Rattle.std.specs.List.{list_any, prefix_len, slice_split}
use Rattle.std.specs.Str.{bytes_eq}
use Rattle.doctor.specs.declared.words.TheConstants.{MOST}

-- a space or a tab
abbrev pub is_blank : ℕ → Bool
is_blank b = b == 32 || b == 9

abbrev pub word_len : List ℕ → ℕ
word_len line = prefix_len (λ b. not (is_blank b)) line

-- a line without the blanks that it begins with
abbrev pub trimmed : List ℕ → List ℕ
trimmed line = drop (prefix_len is_blank line) line

abbrev pub first_word : List ℕ → List ℕ
first_word line = take (word_len (trimmed line)) (trimmed line)

-- ---- lines with a label

-- what follows the label on a line, if the line begins with it
abbrev pub rest_of : List ℕ → List ℕ → Option (List ℕ)
rest_of label line = if bytes_eq (take (length label) line) label then Some (drop (length label) line) else None

abbrev pub first_of : Option (List ℕ) → Option (List ℕ) → Option (List ℕ)
first_of (Some rest) other = Some rest
first_of None other = other

-- what follows the label on the first of these lines that begins with it
abbrev pub rest_on : List ℕ → List (List ℕ) → Option (List ℕ)
rest_on label [] = None
rest_on label (line ∷ lines) = first_of (rest_of label line) (rest_on label lines)

abbrev pub rest_after : List ℕ → List ℕ → Option (List ℕ)
rest_after text label = rest_on label (slice_split (λ b. b == 10) text)

-- ---- numbers

-- the number with one more digit
abbrev pub digit_onto : ℕ → ℕ → Option ℕ
digit_onto value b = if nat_le 48 b && nat_le b 57 && nat_le value MOST then Some (value * 10 + (b - 48)) else None

-- the number with these digits after it
abbrev pub number_from : ℕ → List ℕ → Option ℕ
number_from value [] = Some value
number_from value (b ∷ bs) = option_and_then (λ longer. number_from longer bs) (digit_onto value b)

abbrev pub number_in : List ℕ → Option ℕ
number_in word = if length word == 0 then None else number_from 0 word

abbrev pub is_number_of : ℕ → Option ℕ → Bool
is_number_of number None = false
is_number_of number (Some found) = found == number

abbrev pub is_number : ℕ → List ℕ → Bool
is_number number word = is_number_of number (number_in word)

-- the number after a label
abbrev pub number_after : List ℕ → List ℕ → Option ℕ
number_after text label = option_and_then (λ rest. number_in (first_word rest)) (rest_after text label)

-- whether a number is among the words of a line
abbrev pub is_among : ℕ → List ℕ → Bool
is_among number line = list_any (is_number number) (slice_split is_blank line)

abbrev pub is_among_of : ℕ → Option (List ℕ) → Bool
is_among_of number None = false
is_among_of number (Some rest) = is_among number rest

-- whether a number is among the words after a label
abbrev pub has_number : List ℕ → List ℕ → ℕ → Bool
has_number text label number = is_among_of number (rest_after text label)
