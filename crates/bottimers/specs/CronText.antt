-- The grammar of a cron mask, and the numbers that its fields mean (crontab(5), without names; that `n/s` runs from n
-- to the maximum, and that fields at the end may be missing, is our own choice).
use Rattle.std.specs.Prelude.{ℕ, ◌+◌, ◌-◌, ◌*◌, ◌%◌, Bool, true, false, ◌&&◌, ◌==◌, nat_lt, nat_le, if◌then◌else◌}
use Rattle.std.specs.Prelude.{Option, Some, None, is_some, option_and_then}
use Rattle.std.specs.Prelude.{List, [], ◌∷◌, length, filter, fold, codes, slice_index}
use Rattle.std.specs.List.{list_any, list_all, slice_split, before_first, after_first, position_or_len}
use Rattle.std.specs.Option.{option_map}
use Rattle.bottimers.specs.declared.span.Span.{Span}

-- ---- texts in parts

-- the byte stands in the text
abbrev pub has_byte : ℕ → List ℕ → Bool
has_byte c text = nat_lt (position_or_len (λ b. b == c) text) (length text)

-- what comes before its first place, or the whole text, and what comes after that place
abbrev pub before : ℕ → List ℕ → List ℕ
before c text = before_first (λ b. b == c) text

abbrev pub after : ℕ → List ℕ → List ℕ
after c text = after_first (λ b. b == c) text

-- ---- numbers

abbrev pub is_digit : ℕ → Bool
is_digit b = nat_le 48 b && nat_le b 57

-- one digit or more, leading zeros among them
abbrev pub is_number : List ℕ → Bool
is_number text = nat_lt 0 (length text) && list_all is_digit text

-- read in base ten
abbrev pub decimal : List ℕ → ℕ
decimal text = fold (λ n b. n * 10 + (b - 48)) 0 text

-- a number from low to high
abbrev pub number_in : ℕ → ℕ → List ℕ → Option ℕ
number_in low high text =
    if is_number text && nat_le low (decimal text) && nat_le (decimal text) high then Some (decimal text) else None

-- ---- an item of a list: `*`, `n` or `a-b`, each with an optional `/s`

abbrev pub is_star : List ℕ → Bool
is_star text = (length text == 1) && (slice_index text 0 == 42)

-- `a-b`, where a is at most b
abbrev pub range_in : ℕ → ℕ → List ℕ → List ℕ → Option (ℕ × ℕ)
range_in low high a b =
    option_and_then (λ first. option_and_then (λ last. if nat_le first last then Some (first, last) else None) (number_in low high b))
    (number_in low high a)

-- where an item begins and ends: `*` from low to high, `a-b` from a to b, `n` at n or with a step from n to high
abbrev pub ends_in : ℕ → ℕ → Bool → List ℕ → Option (ℕ × ℕ)
ends_in low high stepped base =
    if is_star base then Some (low, high)
    else (if has_byte 45 base then range_in low high (before 45 base) (after 45 base)
    else option_map (λ n. (n, if stepped then high else n)) (number_in low high base))

-- with the step: 1, or the number after `/`, from 1 to high
abbrev pub span_of : ℕ → ℕ → List ℕ → Option Span
span_of low high item =
    if has_byte 47 item
    then option_and_then (λ step. option_map (λ e. record { first = e.0; last = e.1; step = step }) (ends_in low high true (before 47 item)))
    (number_in 1 high (after 47 item))
    else option_map (λ e. record { first = e.0; last = e.1; step = 1 }) (ends_in low high false item)

-- the numbers first, first + step and so on, up to last
abbrev pub in_span : Span → ℕ → Bool
in_span s n = nat_le s.first n && nat_le n s.last && ((n - s.first) % s.step == 0)

abbrev pub in_span_if_any : Option Span → ℕ → Bool
in_span_if_any None n = false
in_span_if_any (Some s) n = in_span s n

-- ---- a field: a list of items, separated by commas

abbrev pub items_of : List ℕ → List (List ℕ)
items_of field = slice_split (λ b. b == 44) field

abbrev pub is_field : ℕ → ℕ → List ℕ → Bool
is_field low high field = list_all (λ item. is_some (span_of low high item)) (items_of field)

-- the set that the field is
abbrev pub in_field : ℕ → ℕ → List ℕ → ℕ → Bool
in_field low high field n = list_any (λ item. in_span_if_any (span_of low high item) n) (items_of field)

-- ---- a mask: up to five fields, separated by spaces

abbrev pub fields_of : List ℕ → List (List ℕ)
fields_of mask = filter (λ field. nat_lt 0 (length field)) (slice_split (λ b. b == 32) mask)

-- the first of the fields, and those after it; a missing field is `*`
abbrev pub first_field : List (List ℕ) → List ℕ
first_field [] = codes "*"
first_field (field ∷ fields) = field

abbrev pub other_fields : List (List ℕ) → List (List ℕ)
other_fields [] = []
other_fields (field ∷ fields) = fields
