-- Which bytes are the lower case of which, and which texts are the same (RFC 2812 section 2.2).
use Rattle.std.specs.Prelude.{◌≡◌, ℕ, ◌+◌, ◌==◌, ◌&&◌, Bool, true, false, nat_le, nat_eq, if◌then◌else◌, List, map, codes}
use Rattle.std.specs.Cmp.Lexicographic.{pointwise}
use Rattle.rfccase.specs.declared.casemappings.Casemapping.{Casemapping}
use Rattle.rfccase.specs.declared.casemappings.Casemapping.TheVariants.{Ascii, StrictRfc1459, Rfc1459}

abbrev pub folds_brackets : Casemapping → Bool
folds_brackets Ascii = false
folds_brackets StrictRfc1459 = true
folds_brackets Rfc1459 = true

abbrev pub folds_tilde : Casemapping → Bool
folds_tilde Ascii = false
folds_tilde StrictRfc1459 = false
folds_tilde Rfc1459 = true

-- the lower case of a byte by a server's casemapping: 32 more for A to Z and, if the casemapping folds brackets, for
-- [ \ ]; ^ for ~, if it folds the tilde; and the byte itself for any other
abbrev pub low_by : Casemapping → ℕ → ℕ
low_by mapping b =
    if nat_le 65 b && nat_le b 90 then b + 32 else
    (if nat_le 91 b && (nat_le b 93 && folds_brackets mapping) then b + 32 else
    (if b == 126 && folds_tilde mapping then 94 else b))

-- the lower case of each byte of a text
abbrev pub folded_by : Casemapping → List ℕ → List ℕ
folded_by mapping text = map (low_by mapping) text

-- two texts are the same if their lower cases are equal
abbrev pub IsSameBy : Casemapping → List ℕ → List ℕ → Type 0
IsSameBy mapping a b = folded_by mapping a ≡ folded_by mapping b

-- IsSameBy as a test
abbrev pub is_same_by : Casemapping → List ℕ → List ℕ → Bool
is_same_by mapping a b = pointwise nat_eq (folded_by mapping a) (folded_by mapping b)

-- ---- by RFC 2812, as the records are compared on every network

abbrev pub low : ℕ → ℕ
low b = low_by Rfc1459 b

abbrev pub folded : List ℕ → List ℕ
folded text = map low text

abbrev pub IsSame : List ℕ → List ℕ → Type 0
IsSame a b = folded a ≡ folded b

abbrev pub is_same : List ℕ → List ℕ → Bool
is_same a b = pointwise nat_eq (folded a) (folded b)

-- ---- the casemapping that a server announces

-- the casemapping of a name: the strictest if the name is unknown
abbrev pub mapping_named : List ℕ → Casemapping
mapping_named name =
    if is_same name (codes "rfc1459") then Rfc1459 else (if is_same name (codes "strict-rfc1459") then StrictRfc1459 else Ascii)
