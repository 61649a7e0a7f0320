-- An answer as a terminal may show it.
use Rattle.std.specs.Prelude.{◌==◌, ◌+◌, ◌/◌, ◌%◌, ◌&&◌, ◌||◌, nat_le, nat_lt, not, ℕ, Bool, false, if◌then◌else◌, List, [], ◌∷◌}
use Rattle.std.specs.List.{flat_map}
use Rattle.std.specs.Str.{is_utf8}

-- an ASCII control character that is no line feed
abbrev pub is_control : ℕ → Bool
is_control byte = (nat_lt byte 32 && not (byte == 10)) || byte == 127

-- bytes that follow 194, and end one of the control characters U+0080 to U+009F
abbrev pub begins_control : List ℕ → Bool
begins_control [] = false
begins_control (byte ∷ bytes) = nat_le 128 byte && nat_le byte 159

-- a control character is among UTF-8 text
abbrev pub has_control : List ℕ → Bool
has_control [] = false
has_control (byte ∷ bytes) = (is_control byte || (byte == 194 && begins_control bytes)) || has_control bytes

abbrev pub is_clean : List ℕ → Bool
is_clean bytes = is_utf8 bytes && not (has_control bytes)

-- a byte that is shown as it is
abbrev pub is_shown : ℕ → Bool
is_shown byte = (nat_le 32 byte && nat_le byte 126) || byte == 10

-- the hexadecimal digit of a number below 16
abbrev pub digit : ℕ → ℕ
digit number = if nat_lt number 10 then 48 + number else if nat_lt number 16 then 87 + number else 63

-- any other byte is a backslash, x and two digits
abbrev pub escape : ℕ → List ℕ
escape byte = if is_shown byte then byte ∷ [] else 92 ∷ 120 ∷ digit (byte / 16) ∷ digit (byte % 16) ∷ []

abbrev pub shown_as : List ℕ → List ℕ
shown_as bytes = if is_clean bytes then bytes else flat_map escape bytes
