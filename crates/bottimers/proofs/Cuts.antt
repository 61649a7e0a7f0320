-- A text that is cut at the first place of a byte.
use Rattle.std.proofs.Common.{◌≡◌, ℕ, ◌+◌, ◌-◌, ◌<◌, Bool, true, false, cond, ltb, eqb, ◌&&◌, ◌||◌, List, [], ◌∷◌, length, take, drop, get_or, Option, Some, None, is_some, filter, position, arith, ap, ◌∙◌, sym, subst, refl, inl, inr}
use Rattle.std.specs.List.{slice_split, position_or_len, list_any, list_all}
use Rattle.std.proofs.lemmas.Bool.{cases_Bool, cases_lt, eqb-true, cond-true, cond-false, lt-ltb, ltb-true, ltb-false}
use Rattle.std.proofs.lemmas.List.{take_all, length-drop, length-take}
use Rattle.std.proofs.lemmas.List.Splits.{slice_split_none, slice_split_first}
use Rattle.std.proofs.lemmas.List.Sums.{fails_before_first, passes_at_first}
use Rattle.bottimers.specs.declared.span.Span.{Span}
use Rattle.bottimers.specs.CronText.{has_byte, before, after, fields_of, is_field, in_field, span_of, in_span, in_span_if_any}
use Rattle.bottimers.proofs.CronFields.{is_rest, in_rest}

abbrev at_byte : ℕ → ℕ → Bool
at_byte c b = eqb b c

module _ (c : ℕ) (xs : List ℕ) where
  place_some : (i : ℕ) → position (at_byte c) xs ≡ Some i → (position_or_len (at_byte c) xs ≡ i) × (has_byte c xs ≡ true)
  place_some i e =
      elim (cases_Bool (has_byte c xs)) [
        | inl found ↦ let f = sym (cond-true (has_byte c xs) (Some (position_or_len (at_byte c) xs)) None found) ∙ e in (cc, found)
        | inr absent ↦ let f = sym (cond-false (has_byte c xs) (Some (position_or_len (at_byte c) xs)) None absent) ∙ e in cc
      ]

  place_none : position (at_byte c) xs ≡ None → has_byte c xs ≡ false
  place_none e =
      elim (cases_Bool (has_byte c xs)) [
        | inl found ↦ let f = sym (cond-true (has_byte c xs) (Some (position_or_len (at_byte c) xs)) None found) ∙ e in cc
        | inr absent ↦ absent
      ]

  pub front_some : (i : ℕ) → position (at_byte c) xs ≡ Some i → take i xs ≡ before c xs
  front_some i e = ap (λ n. take n xs) (sym (place_some i e).0)

  pub back_some : (i : ℕ) → position (at_byte c) xs ≡ Some i
      → ◌≡◌ {A = Option (List ℕ)} (Some (take (length xs - (i + 1)) (drop (i + 1) xs))) (cond (has_byte c xs) (Some (after c xs)) None)
  back_some i e =
      let p = place_some i e in
      let whole = take_all (length xs - (i + 1)) (drop (i + 1) xs) (omega (arith, length-drop (i + 1) xs)) in
      ap Some (whole ∙ ap (λ n. drop (n + 1) xs) (sym p.0)) ∙ sym (cond-true (has_byte c xs) (Some (after c xs)) None p.1)

  before_none : has_byte c xs ≡ false → before c xs ≡ xs
  before_none absent = take_all (position_or_len (at_byte c) xs) xs (ltb-false _ _ absent)

  pub front_none : position (at_byte c) xs ≡ None → xs ≡ before c xs
  front_none e = sym (before_none (place_none e))

  pub back_none : position (at_byte c) xs ≡ None → ◌≡◌ {A = Option (List ℕ)} None (cond (has_byte c xs) (Some (after c xs)) None)
  back_none e = sym (cond-false (has_byte c xs) (Some (after c xs)) None (place_none e))

  pub split_cut : slice_split (at_byte c) xs ≡ before c xs ∷ cond (has_byte c xs) (slice_split (at_byte c) (after c xs)) []
  split_cut =
      elim (cases_Bool (has_byte c xs)) [
        | inl found ↦
            slice_split_first (at_byte c) xs 0 (ltb-true _ _ found)
            ∙ ap (λ ys. before c xs ∷ ys) (sym (cond-true (has_byte c xs) (slice_split (at_byte c) (after c xs)) [] found))
        | inr absent ↦
            slice_split_none (at_byte c) xs (λ k d l. fails_before_first (at_byte c) xs k d (omega (arith, ltb-false _ _ absent)))
            ∙ ap (λ ys. ys ∷ []) (sym (before_none absent))
            ∙ ap (λ ys. before c xs ∷ ys) (sym (cond-false (has_byte c xs) (slice_split (at_byte c) (after c xs)) [] absent))
      ]

-- the first item of a field, and the rest
abbrev pub rest_after : ℕ → List ℕ → Option (List ℕ)
rest_after c xs = cond (has_byte c xs) (Some (after c xs)) None

rest_cond : (low high : ℕ) (b : Bool) (ys : List ℕ)
    → list_all (λ item. is_some (span_of low high item)) (cond b (slice_split (at_byte 44) ys) []) ≡ is_rest low high (cond b (Some ys) None)
rest_cond low high true ys = refl
rest_cond low high false ys = refl

in_rest_cond : (low high n : ℕ) (b : Bool) (ys : List ℕ)
    → list_any (λ item. in_span_if_any (span_of low high item) n) (cond b (slice_split (at_byte 44) ys) []) ≡ in_rest low high (cond b (Some ys) None) n
in_rest_cond low high n true ys = refl
in_rest_cond low high n false ys = refl

pub is_field-cut : (low high : ℕ) (xs : List ℕ) → is_field low high xs ≡ (is_some (span_of low high (before 44 xs)) && is_rest low high (rest_after 44 xs))
is_field-cut low high xs =
    ap (list_all (λ item. is_some (span_of low high item))) (split_cut 44 xs)
    ∙ ap (λ b. is_some (span_of low high (before 44 xs)) && b) (rest_cond low high (has_byte 44 xs) (after 44 xs))

pub in_field-cut : (low high : ℕ) (xs : List ℕ) (n : ℕ)
    → in_field low high xs n ≡ (in_span_if_any (span_of low high (before 44 xs)) n || in_rest low high (rest_after 44 xs) n)
in_field-cut low high xs n =
    ap (list_any (λ item. in_span_if_any (span_of low high item) n)) (split_cut 44 xs)
    ∙ ap (λ b. in_span_if_any (span_of low high (before 44 xs)) n || b) (in_rest_cond low high n (has_byte 44 xs) (after 44 xs))

-- one item of a field, with what it means
pub field_step : (low high : ℕ) (items item : List ℕ) (more : Option (List ℕ)) (s : Span) → item ≡ before 44 items → more ≡ rest_after 44 items
    → span_of low high item ≡ Some s → (is_field low high items ≡ is_rest low high more)
    × ((n : ℕ) → in_field low high items n ≡ (in_span s n || in_rest low high more n))
field_step low high items item more s front back means =
    let span : span_of low high (before 44 items) ≡ Some s = ap (span_of low high) (sym front) ∙ means in (
      is_field-cut low high items
          ∙ ap (λ o. is_some o && is_rest low high (rest_after 44 items)) span
          ∙ ap (is_rest low high) (sym back),
      λ n.
          in_field-cut low high items n
          ∙ ap (λ o. in_span_if_any o n || in_rest low high (rest_after 44 items) n) span
          ∙ ap (λ r. in_span s n || in_rest low high r n) (sym back),
    )

-- and one that means nothing
pub field_stop : (low high : ℕ) (items item : List ℕ) → item ≡ before 44 items → span_of low high item ≡ None → is_field low high items ≡ false
field_stop low high items item front means =
    is_field-cut low high items
    ∙ ap (λ o. is_some o && is_rest low high (rest_after 44 items)) (ap (span_of low high) (sym front) ∙ means)

-- the fields of a rest, which may be none
abbrev pub fields_rest : Option (List ℕ) → List (List ℕ)
fields_rest None = []
fields_rest (Some rest) = fields_of rest

abbrev filled : List ℕ → Bool
filled field = ltb 0 (length field)

fields_cond : (b : Bool) (ys : List ℕ) → filter filled (cond b (slice_split (at_byte 32) ys) []) ≡ fields_rest (cond b (Some ys) None)
fields_cond true ys = refl
fields_cond false ys = refl

module _ (ys : List ℕ) (some : 0 < length ys) (begins : get_or ys 0 0 ≡ 32 → ⊥) where
  position_later : 0 < position_or_len (at_byte 32) ys
  position_later =
      elim (cases_lt 0 (position_or_len (at_byte 32) ys)) [
        | inl later ↦ later
        | inr first ↦
            let zero : position_or_len (at_byte 32) ys ≡ 0 = omega arith in
            let passes = passes_at_first (at_byte 32) ys 0 (subst (λ n. n < length ys) (sym zero) some) in
            absurd (begins (eqb-true _ _ (subst (λ n. eqb (get_or ys n 0) 32 ≡ true) zero passes)))
      ]

  filled_before : filled (before 32 ys) ≡ true
  filled_before = lt-ltb 0 _ (let later = position_later in omega (arith, length-take (position_or_len (at_byte 32) ys) ys))

  -- a mask that begins with a field
  pub fields_of-cut : fields_of ys ≡ before 32 ys ∷ fields_rest (rest_after 32 ys)
  fields_of-cut =
      ap (filter filled) (split_cut 32 ys)
      ∙ cond-true (filled (before 32 ys)) _ _ filled_before
      ∙ ap (λ fs. before 32 ys ∷ fs) (fields_cond (has_byte 32 ys) (after 32 ys))
