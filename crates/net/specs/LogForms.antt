-- How a line of a log shows what happened, without a byte that could command a terminal.
use Rattle.std.specs.Prelude.{ℕ, Bool, false, ◌==◌, ◌+◌, ◌/◌, ◌%◌, ◌&&◌, ◌||◌, nat_le, nat_lt, if◌then◌else◌, List, [], ◌∷◌, ◌++◌, codes, decimal}
use Rattle.net.specs.declared.log_form.LogForm.{LogForm}
use Rattle.net.specs.declared.log_form.LogForm.TheVariants.{Text, Json}

-- ---- control characters

-- of 128 to 159: after 194, the second byte of one of the control characters U+0080 to U+009F
abbrev pub is_high : ℕ → Bool
is_high byte = nat_le 128 byte && nat_le byte 159

abbrev pub begins_high : List ℕ → Bool
begins_high [] = false
begins_high (byte ∷ bytes) = is_high byte

-- a byte of a control character in UTF-8, after the byte before it and before those behind it
abbrev pub is_hidden : ℕ → ℕ → List ℕ → Bool
is_hidden before byte behind =
    (nat_lt byte 32 || byte == 127) || ((byte == 194 && begins_high behind) || (before == 194 && is_high byte))

-- a control character is among these bytes
abbrev pub has_control : List ℕ → Bool
has_control [] = false
has_control (byte ∷ bytes) = (nat_lt byte 32 || byte == 127) || ((byte == 194 && begins_high bytes) || has_control bytes)

-- ---- a byte as it is shown

-- the hexadecimal digit of a number below 16
abbrev pub digit : ℕ → ℕ
digit number = if nat_lt number 10 then 48 + number else if nat_lt number 16 then 87 + number else 63

-- text: a backslash, x and two digits, for each byte of a control character
abbrev pub text_byte : Bool → ℕ → List ℕ
text_byte hidden byte = if hidden then 92 ∷ 120 ∷ digit (byte / 16) ∷ digit (byte % 16) ∷ [] else byte ∷ []

-- a backslash before a quotation mark or a backslash
abbrev pub quoted : ℕ → List ℕ
quoted byte = if byte == 34 || byte == 92 then 92 ∷ byte ∷ [] else byte ∷ []

-- JSON (RFC 8259 section 7): a backslash, u, 00 and two digits; those of a control character above 127 are its second byte
abbrev pub json_byte : Bool → ℕ → List ℕ
json_byte hidden byte =
    if hidden then (if byte == 194 then [] else 92 ∷ 117 ∷ 48 ∷ 48 ∷ digit (byte / 16) ∷ digit (byte % 16) ∷ []) else quoted byte

abbrev pub shown_byte : LogForm → Bool → ℕ → List ℕ
shown_byte Text hidden byte = text_byte hidden byte
shown_byte Json hidden byte = json_byte hidden byte

-- ---- a line

-- the bytes that follow this one, as they are shown
abbrev pub shown_after : LogForm → ℕ → List ℕ → List ℕ
shown_after form before [] = []
shown_after form before (byte ∷ bytes) = shown_byte form (is_hidden before byte bytes) byte ++ shown_after form byte bytes

-- what happened, as it is shown
abbrev pub shown : LogForm → List ℕ → List ℕ
shown form happened = shown_after form 0 happened

-- what stands before it
abbrev pub front_of : LogForm → ℕ → List ℕ
front_of Text now = decimal now ++ codes " "
front_of Json now = codes "{\"time\":" ++ (decimal now ++ codes ",\"entry\":\"")

-- and after it
abbrev pub end_of : LogForm → List ℕ
end_of Text = codes "\n"
end_of Json = codes "\"}\n"

-- the line of what happened at this second
abbrev pub line_in : LogForm → ℕ → List ℕ → List ℕ
line_in form now happened = front_of form now ++ (shown form happened ++ end_of form)
