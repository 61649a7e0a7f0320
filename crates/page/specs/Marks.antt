-- The bytes of an answer, and how it shows a text from outside.
use Rattle.std.specs.Prelude.{◌≡◌, ℕ, ◌+◌, ◌/◌, ◌%◌, ◌==◌, Bool, true, not, ◌&&◌, ◌||◌, min, nat_le, nat_lt, List, [], ◌∷◌, ◌++◌, if◌then◌else◌, codes, decimal}
use Rattle.std.specs.List.{flat_map, list_all}
use Rattle.std.specs.Str.{chars, is_utf8}

-- ---- bytes

-- LF, CR, or a space to ~
abbrev pub is_printed : ℕ → Bool
is_printed b = (b == 10 || b == 13) || (nat_le 32 b && nat_le b 126)

abbrev pub ArePrinted : List ℕ → Type 0
ArePrinted bytes = list_all is_printed bytes ≡ true

-- a byte that HTML reads as markup, or as the end of an attribute: < > & " '
abbrev pub is_markup : ℕ → Bool
is_markup c = (c == 60 || c == 62) || (c == 38 || (c == 34 || c == 39))

-- a space to ~ that stands for itself in HTML
abbrev pub is_bare : ℕ → Bool
is_bare c = (nat_le 32 c && nat_le c 126) && not (is_markup c)

-- a space to ~ that begins no markup and ends no attribute
abbrev pub is_inert : ℕ → Bool
is_inert c = is_bare c || c == 38

-- ---- a text

-- the reference to a character of markup
abbrev pub reference : ℕ → List ℕ
reference c =
    if c == 60 then codes "&lt;" else if c == 62 then codes "&gt;" else if c == 38 then codes "&amp;"
    else if c == 34 then codes "&quot;" else codes "&#39;"

-- the hexadecimal digit of a number below 16
abbrev pub digit : ℕ → ℕ
digit number = if nat_lt number 10 then 48 + number else if nat_lt number 16 then 87 + number else 63

-- a backslash, x and two digits
abbrev pub hidden : ℕ → List ℕ
hidden c = 92 ∷ 120 ∷ digit (c / 16) ∷ digit (c % 16) ∷ []

-- the reference to a character by its number; no character has a number above 1,114,111
abbrev pub numbered : ℕ → List ℕ
numbered c = codes "&#" ++ (decimal (min c 1114111) ++ codes ";")

-- a character: itself, its reference, or hidden if it is a control character
abbrev pub shown_char : ℕ → List ℕ
shown_char c =
    if is_bare c then c ∷ [] else if is_markup c then reference c
    else if nat_lt c 160 then hidden c else numbered c

-- a byte of a text that is not UTF-8
abbrev pub shown_byte : ℕ → List ℕ
shown_byte b = if nat_lt b 128 then shown_char b else hidden b

-- a text from outside
abbrev pub shown_text : List ℕ → List ℕ
shown_text text =
    if list_all is_bare text then text
    else if is_utf8 text then flat_map shown_char (chars text) else flat_map shown_byte text

-- whatever the text holds, it adds no control byte, no byte above ~, no markup, and no end of an attribute
abbrev pub AreInert : List ℕ → Type 0
AreInert bytes = list_all is_inert bytes ≡ true
