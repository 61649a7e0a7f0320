-- Records, which carry bodies from one end of a connection to the other. A key is the block that RFC 2104 makes of it.
use Rattle.std.specs.Prelude.{◌≤◌, ◌+◌, ℕ, List, [], ◌∷◌, ◌++◌, length, take, ◌==◌, if◌then◌else◌}
use Rattle.std.specs.Int.{w16, w64, to_be_bytes}
use Rattle.sealing.specs.declared.kind.Kind.{Kind}
use Rattle.sealing.specs.declared.kind.Kind.TheVariants.{Frames, Beat}
use Rattle.sealing.specs.declared.limits.TheConstants.{MAX_BODY, TAG}
use Rattle.sealing.specs.Hmac.{hmac_of}

-- ---- bodies

abbrev pub kind_byte : Kind → ℕ
kind_byte Frames = 1
kind_byte Beat = 2

-- the body with this content
abbrev pub body_of : Kind → List ℕ → List ℕ
body_of kind content = kind_byte kind ∷ content

abbrev pub IsLength : ℕ → Type 0
IsLength n = (1 ≤ n) × (n ≤ MAX_BODY)

abbrev pub IsBody : List ℕ → Type 0
IsBody body = IsLength (length body)

-- what a body carries of this kind: nothing if it is of another kind
abbrev pub content : Kind → List ℕ → List ℕ
content kind [] = []
content kind (byte ∷ rest) = if byte == kind_byte kind then rest else []

-- what these bodies carry of this kind, one after the other
abbrev pub carried : Kind → List (List ℕ) → List ℕ
carried kind [] = []
carried kind (body ∷ bodies) = content kind body ++ carried kind bodies

-- ---- records

-- what the tag of a record is computed over: its count, and its body
abbrev pub tagged : ℕ → List ℕ → List ℕ
tagged count body = to_be_bytes w64 count ++ body

abbrev pub tag_of : List ℕ → ℕ → List ℕ → List ℕ
tag_of key count body = take TAG (hmac_of key (tagged count body))

-- the record of this count with this body
abbrev pub sealed : List ℕ → ℕ → List ℕ → List ℕ
sealed key count body = to_be_bytes w16 (length body) ++ (body ++ tag_of key count body)

-- the records with these bodies, from this count on
abbrev pub all_sealed : List ℕ → ℕ → List (List ℕ) → List ℕ
all_sealed key count [] = []
all_sealed key count (body ∷ bodies) = sealed key count body ++ all_sealed key (count + 1) bodies
