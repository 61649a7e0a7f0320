-- What a log shows has no control character.
use Rattle.std.proofs.Common.{◌≡◌, ◌∙◌, ◌++◌, ◌||◌, ◌==◌, ◌+◌, ◌/◌, ◌%◌, nat_lt, ℕ, Bool, true, false, if◌then◌else◌, List, [], ◌∷◌, refl, arith}
use Rattle.net.specs.declared.log_form.LogForm.{LogForm}
use Rattle.net.specs.declared.log_form.LogForm.TheVariants.{Text, Json}
use Rattle.net.specs.LogForms.{begins_high, digit, has_control, is_hidden, is_high, json_byte, shown_after, shown_byte, text_byte}

-- ---- after 194

-- what follows a byte 194 that is shown as it is does not end a control character
quoted_low : (byte : ℕ) (rest : List ℕ) (b : Bool) → (byte == 34 || byte == 92) ≡ b → is_high byte ≡ false
    → begins_high ((if b then 92 ∷ byte ∷ [] else byte ∷ []) ++ rest) ≡ false
quoted_low byte rest true e low = refl
quoted_low byte rest false e low = low

hidden_low : (byte : ℕ) (bytes : List ℕ) → is_hidden 194 byte bytes ≡ false → is_high byte ≡ false
hidden_low byte bytes e = grind (arith, e)

text_low : (byte : ℕ) (bytes rest : List ℕ) (b : Bool) → is_hidden 194 byte bytes ≡ b → begins_high (text_byte b byte ++ rest) ≡ false
text_low byte bytes rest true e = refl
text_low byte bytes rest false e = hidden_low byte bytes e

json_hidden_low : (byte : ℕ) (rest : List ℕ) (b : Bool) → (byte == 194) ≡ b → begins_high rest ≡ false
    → begins_high ((if b then [] else 92 ∷ 117 ∷ 48 ∷ 48 ∷ digit (byte / 16) ∷ digit (byte % 16) ∷ []) ++ rest) ≡ false
json_hidden_low byte rest true e low = low
json_hidden_low byte rest false e low = refl

-- of a byte 194 that hides, the next is hidden too, and shown by a backslash
json_low : (byte : ℕ) (bytes rest : List ℕ) (b : Bool) → is_hidden 194 byte bytes ≡ b → (byte ≡ 194 → begins_high rest ≡ false)
    → begins_high (json_byte b byte ++ rest) ≡ false
json_low byte bytes rest false e low = quoted_low byte rest (byte == 34 || byte == 92) refl (hidden_low byte bytes e)
json_low byte bytes rest true e low = by (byte == 194) refl
  where
    by : (b : Bool) → (byte == 194) ≡ b → begins_high ((if b then [] else 92 ∷ 117 ∷ 48 ∷ 48 ∷ digit (byte / 16) ∷ digit (byte % 16) ∷ []) ++ rest) ≡ false
    by true is = low (grind (arith, is))
    by false is = refl

low_after : (form : LogForm) (before : ℕ) (bytes : List ℕ) → before ≡ 194 → begins_high (shown_after form before bytes) ≡ false
low_after form before [] is = refl
low_after Text before (byte ∷ bytes) is = rw is (text_low byte bytes (shown_after Text byte bytes) (is_hidden 194 byte bytes) refl)
low_after Json before (byte ∷ bytes) is =
    rw is (json_low byte bytes (shown_after Json byte bytes) (is_hidden 194 byte bytes) refl (λ same. low_after Json byte bytes same))

-- ---- a byte

-- a byte that commands nothing, whatever comes after it
abbrev IsSafe : ℕ → Type 0
IsSafe byte = (bytes : List ℕ) → has_control (byte ∷ bytes) ≡ has_control bytes

safe : (byte : ℕ) → (nat_lt byte 32 || byte == 127) ≡ false → (byte == 194) ≡ false → IsSafe byte
safe byte plain other bytes = rw (plain, other) refl

letter_safe : (number : ℕ) (b : Bool) → nat_lt number 16 ≡ b → IsSafe (if b then 87 + number else 63)
letter_safe number true e = safe (87 + number) (grind (arith, e)) (grind (arith, e))
letter_safe number false e = λ bytes. refl

digit_safe : (number : ℕ) (b : Bool) → nat_lt number 10 ≡ b → IsSafe (if b then 48 + number else if nat_lt number 16 then 87 + number else 63)
digit_safe number true e = safe (48 + number) (grind (arith, e)) (grind (arith, e))
digit_safe number false e = letter_safe number (nat_lt number 16) refl

digits_safe : (byte : ℕ) (rest : List ℕ) → has_control (digit (byte / 16) ∷ digit (byte % 16) ∷ rest) ≡ has_control rest
digits_safe byte rest =
    digit_safe (byte / 16) (nat_lt (byte / 16) 10) refl (digit (byte % 16) ∷ rest)
    ∙ digit_safe (byte % 16) (nat_lt (byte % 16) 10) refl rest

-- a byte that is not hidden, before what does not end a control character if it is 194
plain_safe : (before byte : ℕ) (bytes rest : List ℕ) → is_hidden before byte bytes ≡ false → (byte ≡ 194 → begins_high rest ≡ false)
    → has_control (byte ∷ rest) ≡ has_control rest
plain_safe before byte bytes rest e low = by (byte == 194) refl
  where
    plain : (nat_lt byte 32 || byte == 127) ≡ false
    plain = grind (arith, e)

    by : (b : Bool) → (byte == 194) ≡ b → has_control (byte ∷ rest) ≡ has_control rest
    by true is = rw (plain, is, low (grind (arith, is))) refl
    by false is = rw (plain, is) refl

quoted_safe : (before byte : ℕ) (bytes rest : List ℕ) (b : Bool) → (byte == 34 || byte == 92) ≡ b
    → is_hidden before byte bytes ≡ false → (byte ≡ 194 → begins_high rest ≡ false)
    → has_control ((if b then 92 ∷ byte ∷ [] else byte ∷ []) ++ rest) ≡ has_control rest
quoted_safe before byte bytes rest true q e low = plain_safe before byte bytes rest e low
quoted_safe before byte bytes rest false q e low = plain_safe before byte bytes rest e low

shown_safe : (form : LogForm) (before byte : ℕ) (bytes rest : List ℕ) (b : Bool) → is_hidden before byte bytes ≡ b
    → (byte ≡ 194 → begins_high rest ≡ false) → has_control (shown_byte form b byte ++ rest) ≡ has_control rest
shown_safe Text before byte bytes rest true e low = digits_safe byte rest
shown_safe Text before byte bytes rest false e low = plain_safe before byte bytes rest e low
shown_safe Json before byte bytes rest true e low = by (byte == 194) refl
  where
    by : (b : Bool) → (byte == 194) ≡ b
        → has_control ((if b then [] else 92 ∷ 117 ∷ 48 ∷ 48 ∷ digit (byte / 16) ∷ digit (byte % 16) ∷ []) ++ rest) ≡ has_control rest
    by true is = refl
    by false is = digits_safe byte rest
shown_safe Json before byte bytes rest false e low = quoted_safe before byte bytes rest (byte == 34 || byte == 92) refl e low

-- ---- all that is shown

no_control_after : (form : LogForm) (before : ℕ) (bytes : List ℕ) → has_control (shown_after form before bytes) ≡ false
no_control_after form before [] = refl
no_control_after form before (byte ∷ bytes) =
    shown_safe form before byte bytes (shown_after form byte bytes) (is_hidden before byte bytes) refl (low_after form byte bytes)
    ∙ no_control_after form byte bytes

pub no_control : (form : LogForm) (happened : List ℕ) → has_control (shown_after form 0 happened) ≡ false
no_control form happened = no_control_after form 0 happened
