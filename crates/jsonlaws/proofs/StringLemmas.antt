-- A spelled string is read as its bytes' characters, and the lexer passes over it.
use Rattle.std.proofs.Common.{◌≡◌, ℕ, ◌+◌, ◌*◌, ◌/◌, ◌%◌, ◌<◌, ◌≤◌, Bool, true, false, cond, List, [], ◌∷◌, ◌++◌, Some, inl, inr, refl, sym, ap, ◌∙◌, arith, append_assoc, option_map, subst}
use Rattle.std.specs.List.{list_all}
use Rattle.std.specs.Char.{digit_char, digit_value}
use Rattle.std.specs.Str.{chars}
use Rattle.std.proofs.lemmas.Bool.{cases_Bool, cases_lt, ne_eqb, lt-leb, le-ltb, lt-ltb, and_parts, and_from, not-true, eqb-false, leb-true, ltb-true, cond-true, cond-false}
use Rattle.std.proofs.lemmas.Str.{chars-encodes, digit_value-digit_char}
use Rattle.std.proofs.Math.Utf8.{encode, encodes, scalars}
use Rattle.std.proofs.Math.Nat.{div-add-mod}
use Rattle.json.specs.Text.{content, plain, prepend, code_unit}
use Rattle.json.specs.Word.{is_operator, is_space}
use Rattle.json.specs.Lex.{Lexeme, Mode, between, in_string, lex, lex_byte, string_token, token, operator, space, other}
use Rattle.recordjson.specs.Words.{is_bare, quoted, spelled, spelled_byte}
use Rattle.jsonlaws.specs.Strings.{is_byte}

-- ---- the character of a byte

-- what both readers make of it, before any text
record Passes (b : ℕ) (spelling : List ℕ) : Type 0 where
  read : (r : List ℕ) → content plain (spelling ++ r) ≡ prepend (encode b) (content plain r)
  lexed : (r : List ℕ) → lex in_string (spelling ++ r) ≡ lex in_string r

stays_inside : (o s : Bool) (x : ℕ) (r : List ℕ) (k : Mode → List Lexeme) → lex_byte in_string (cond o operator (cond s space other)) x r k ≡ k in_string
stays_inside true s x r k = refl
stays_inside false true x r k = refl
stays_inside false false x r k = refl

lex-inside : (x : ℕ) (r : List ℕ) → (x ≡ 34 → ⊥) → (x ≡ 92 → ⊥) → lex in_string (x ∷ r) ≡ lex in_string r
unfolding lex
lex-inside x r q s = rw (ne_eqb x 34 q, ne_eqb x 92 s) (stays_inside (is_operator x) (is_space x) x r (λ m. lex m r))

bare_passes : (b : ℕ) → (b ≡ 34 → ⊥) → (b ≡ 92 → ⊥) → 32 ≤ b → b ≤ 126 → Passes b (b ∷ [])
unfolding content lex encode
bare_passes b q s l u =
    record {
      read = λ r. rw (ne_eqb b 34 q, ne_eqb b 92 s, le-ltb b 32 l, lt-ltb b 128 (omega (arith, u))) refl;
      lexed = λ r. lex-inside b r q s;
    }

not_quoting : (d : ℕ) → d < 16 → (digit_char d ≡ 34 → ⊥) × (digit_char d ≡ 92 → ⊥)
not_quoting d h =
    elim (cases_lt d 10) [
      | inl below ↦ rw (lt-ltb d 10 below) ((λ e. omega (arith, e)), (λ e. omega (arith, e, below)))
      | inr above ↦ rw (le-ltb d 10 above) ((λ e. omega (arith, e)), (λ e. omega (arith, e, above, h)))
    ]

unit : (hi lo h l : ℕ) → digit_value hi ≡ h → digit_value lo ≡ l → h < 16 → l < 16 → code_unit 48 48 hi lo ≡ Some (h * 16 + l)
unfolding code_unit
unit hi lo h l hi_is lo_is h_fits l_fits = rw (hi_is, lo_is, lt-ltb h 16 h_fits, lt-ltb l 16 l_fits) (ap Some (omega arith))

escape_passes : (b hi lo : ℕ) → b < 256 → digit_value hi ≡ b / 16 → digit_value lo ≡ b % 16 → (hi ≡ 34 → ⊥) × (hi ≡ 92 → ⊥)
    → (lo ≡ 34 → ⊥) × (lo ≡ 92 → ⊥) → Passes b (92 ∷ 117 ∷ 48 ∷ 48 ∷ hi ∷ lo ∷ [])
unfolding content lex
escape_passes b hi lo h hi_is lo_is hi_not lo_not =
    let value : code_unit 48 48 hi lo ≡ Some b = unit hi lo (b / 16) (b % 16) hi_is lo_is (omega (arith, div-add-mod b 16)) (omega (arith, div-add-mod b 16))
    ∙ ap Some (omega (arith, div-add-mod b 16)) in
    record {
      read = λ r. rw (value, lt-leb 0xd800 b (omega (arith, h)), lt-leb 0xdc00 b (omega (arith, h))) refl;
      lexed = λ r. lex-inside hi (lo ∷ r) hi_not.0 hi_not.1 ∙ lex-inside lo r lo_not.0 lo_not.1;
    }

passes : (b : ℕ) → b < 256 → Passes b (spelled_byte b)
passes b h =
    elim (cases_Bool (is_bare b)) [
      | inl e ↦
          let parts = and_parts _ _ e in
          let more = and_parts _ _ parts.0 in
          let plain_is = and_parts _ _ more.0 in
          subst (Passes b) (sym (cond-true (is_bare b) _ _ e))
          (bare_passes b (eqb-false b 34 (not-true _ more.1)) (eqb-false b 92 (not-true _ parts.1)) (leb-true 32 b plain_is.0) (leb-true b 126 plain_is.1))
      | inr e ↦
          let high : b / 16 < 16 = omega (arith, div-add-mod b 16) in
          let low : b % 16 < 16 = omega (arith, div-add-mod b 16) in
          subst (Passes b) (sym (cond-false (is_bare b) _ _ e))
          (escape_passes b (digit_char (b / 16)) (digit_char (b % 16)) h (digit_value-digit_char (b / 16) (omega (arith, high)))
          (digit_value-digit_char (b % 16) (omega (arith, low))) (not_quoting (b / 16) high) (not_quoting (b % 16) low))
    ]

-- ---- a string

pub content-spelled : (text r : List ℕ) → list_all is_byte text ≡ true → content plain (spelled text ++ 34 ∷ r) ≡ Some (encodes text)
unfolding content
content-spelled [] r h = refl
content-spelled (b ∷ bs) r h =
    let parts = and_parts _ _ h in
    ap (content plain) (append_assoc (spelled_byte b) (spelled bs) (34 ∷ r)) ∙ (passes b (ltb-true b 256 parts.0)).read _
    ∙ ap (prepend (encode b)) (content-spelled bs r parts.1)

lex-spelled : (text r : List ℕ) → list_all is_byte text ≡ true → lex in_string (spelled text ++ 34 ∷ r) ≡ lex between r
unfolding lex
lex-spelled [] r h = refl
lex-spelled (b ∷ bs) r h =
    let parts = and_parts _ _ h in
    ap (lex in_string) (append_assoc (spelled_byte b) (spelled bs) (34 ∷ r)) ∙ (passes b (ltb-true b 256 parts.0)).lexed _ ∙ lex-spelled bs r parts.1

bytes_are_scalars : (text : List ℕ) → list_all is_byte text ≡ true → scalars text ≡ true
bytes_are_scalars [] h = refl
bytes_are_scalars (b ∷ bs) h =
    let parts = and_parts _ _ h in
    let fits : b < 256 = ltb-true b 256 parts.0 in
    and_from _ _ (cond-true _ _ _ (lt-ltb b 55296 (omega (arith, fits)))) (bytes_are_scalars bs parts.1)

pub characters-spelled : (text rest : List ℕ) → list_all is_byte text ≡ true → option_map chars (content plain (spelled text ++ 34 ∷ rest)) ≡ Some text
characters-spelled text rest h = ap (option_map chars) (content-spelled text rest h) ∙ ap Some (chars-encodes text (bytes_are_scalars text h))

pub lex-quoted : (text rest : List ℕ) → list_all is_byte text ≡ true
    → lex between (quoted text ++ rest) ≡ token (string_token (content plain (spelled text ++ 34 ∷ rest))) ∷ lex between rest
unfolding lex quoted
lex-quoted text rest h =
    ap (λ x. lex between (34 ∷ x)) (append_assoc (spelled text) (34 ∷ []) rest)
    ∙ ap (λ l. token (string_token (content plain (spelled text ++ 34 ∷ rest))) ∷ l) (lex-spelled text rest h)
