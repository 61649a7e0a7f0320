-- The words of JSON (RFC 8259) that a line is made of.
use Rattle.std.specs.Prelude.{◌≡◌, ℕ, ◌/◌, ◌%◌, ◌==◌, Bool, true, false, not, ◌&&◌, nat_le, List, [], ◌∷◌, ◌++◌, Option, None, Some, if◌then◌else◌, codes, decimal}
use Rattle.std.specs.List.{flat_map, list_all}
use Rattle.std.specs.Char.{digit_char}

-- a space to ~
abbrev pub is_plain : ℕ → Bool
is_plain b = nat_le 32 b && nat_le b 126

-- each of the bytes is a space to ~
abbrev pub ArePlain : List ℕ → Type 0
ArePlain bytes = list_all is_plain bytes ≡ true

-- one line of such bytes, with its line feed
abbrev pub IsPlainLine : List ℕ → Type 0
IsPlainLine text = (line : List ℕ) × (text ≡ line ++ 10 ∷ []) × ArePlain line

-- a byte that stands for itself in a string: a space to ~, but not " or \
abbrev pub is_bare : ℕ → Bool
is_bare b = is_plain b && not (b == 34) && not (b == 92)

-- the character of a byte: itself, or \u00XX, which means the character of the byte's number
abbrev pub spelled_byte : ℕ → List ℕ
spelled_byte b = if is_bare b then b ∷ [] else codes "\\u00" ++ digit_char (b / 16) ∷ digit_char (b % 16) ∷ []

-- one character for each byte
abbrev pub spelled : List ℕ → List ℕ
spelled text = flat_map spelled_byte text

-- a string
unfoldable pub quoted : List ℕ → List ℕ
quoted text = codes "\"" ++ spelled text ++ codes "\""

-- a string, or null in place of the empty text
abbrev pub or_null : List ℕ → List ℕ
or_null [] = codes "null"
or_null (b ∷ bs) = quoted (b ∷ bs)

-- a second, or null in place of 0
abbrev pub second_or_null : ℕ → List ℕ
second_or_null n = if n == 0 then codes "null" else decimal n

abbrev pub truth : Bool → List ℕ
truth true = codes "true"
truth false = codes "false"

-- the name of an object's first member, and of a later one
unfoldable pub first : List ℕ → List ℕ
first name = codes "{\"" ++ name ++ codes "\":"

unfoldable pub next : List ℕ → List ℕ
next name = codes ",\"" ++ name ++ codes "\":"

-- the comma before the member at a place of a list
abbrev pub comma : ℕ → List ℕ
comma place = if place == 0 then [] else codes ","

-- what is looked up by place, if it is there
abbrev pub found : {A : Type 0} → (A → List ℕ) → Option A → List ℕ
found f None = []
found f (Some x) = f x

-- the members of a list, with a comma between each two
abbrev pub listed : {A : Type 0} → (A → List ℕ) → List A → List ℕ
listed f [] = []
listed f (x ∷ xs) = f x ++ flat_map (λ y. 44 ∷ f y) xs
