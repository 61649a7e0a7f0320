-- What is shown has no control character.
use Rattle.std.proofs.Common.{◌≡◌, ◌∙◌, ◌++◌, ◌&&◌, ◌||◌, ◌==◌, ◌+◌, ◌/◌, ◌%◌, nat_lt, ℕ, Bool, true, false, if◌then◌else◌, List, [], ◌∷◌, refl, sym, ap, subst, arith}
use Rattle.std.specs.List.{flat_map}
use Rattle.std.specs.Str.{IsUtf8, is_utf8}
use Rattle.std.proofs.lemmas.Str.{IsUtf8-from_is_utf8}
use Rattle.commandline.specs.Escapes.{begins_control, digit, escape, has_control, is_clean, is_control, is_shown, shown_as}

pub not_utf8 : (bytes : List ℕ) → (IsUtf8 bytes → ⊥) → is_utf8 bytes ≡ false
not_utf8 bytes broken = by (is_utf8 bytes) refl
  where
    by : (b : Bool) → is_utf8 bytes ≡ b → is_utf8 bytes ≡ false
    by true e = absurd (broken (IsUtf8-from_is_utf8 bytes e))
    by false e = e

-- ---- no control character

-- a byte that commands nothing, whatever comes after it
abbrev IsSafe : ℕ → Type 0
IsSafe byte = (bytes : List ℕ) → has_control (byte ∷ bytes) ≡ has_control bytes

safe : (byte : ℕ) → is_control byte ≡ false → (byte == 194) ≡ false → IsSafe byte
safe byte plain other bytes = rw (plain, other) refl

letter_safe : (number : ℕ) (b : Bool) → nat_lt number 16 ≡ b → IsSafe (if b then 87 + number else 63)
letter_safe number true e = safe (87 + number) (grind (arith, e)) (grind (arith, e))
letter_safe number false e = λ bytes. refl

digit_safe : (number : ℕ) (b : Bool) → nat_lt number 10 ≡ b → IsSafe (if b then 48 + number else if nat_lt number 16 then 87 + number else 63)
digit_safe number true e = safe (48 + number) (grind (arith, e)) (grind (arith, e))
digit_safe number false e = letter_safe number (nat_lt number 16) refl

shown_safe : (byte : ℕ) → is_shown byte ≡ true → IsSafe byte
shown_safe byte shown = safe byte (grind (arith, shown)) (grind (arith, shown))

escape_safe : (byte : ℕ) (b : Bool) → is_shown byte ≡ b → (bytes : List ℕ)
    → has_control ((if b then byte ∷ [] else 92 ∷ 120 ∷ digit (byte / 16) ∷ digit (byte % 16) ∷ []) ++ bytes) ≡ has_control bytes
escape_safe byte true e bytes = shown_safe byte e bytes
escape_safe byte false e bytes =
    digit_safe (byte / 16) (nat_lt (byte / 16) 10) refl (digit (byte % 16) ∷ bytes)
    ∙ digit_safe (byte % 16) (nat_lt (byte % 16) 10) refl bytes

escapes_harmless : (bytes : List ℕ) → has_control (flat_map escape bytes) ≡ false
escapes_harmless [] = refl
escapes_harmless (byte ∷ bytes) = escape_safe byte (is_shown byte) refl (flat_map escape bytes) ∙ escapes_harmless bytes

-- what is shown of such bytes
pub shown_harmless : (bytes shown : List ℕ) → shown ≡ flat_map escape bytes → has_control shown ≡ false
shown_harmless bytes shown is = ap has_control is ∙ escapes_harmless bytes
