-- Which bytes an answer has, and that a text from outside adds no markup.
use Rattle.std.proofs.Common.{◌≡◌, ◌∙◌, ◌++◌, ap, take, drop, ◌&&◌, ◌==◌, ◌+◌, ◌/◌, ◌%◌, ◌<◌, ◌≤◌, ◌^◌, min, nat_lt, ℕ, suc, Bool, true, false, true≢false, if◌then◌else◌, List, [], ◌∷◌, length, get_or, refl, sym, arith, codes, decimal}
use Rattle.std.specs.List.{flat_map, list_all}
use Rattle.std.specs.Str.{IsUtf8, chars, is_utf8}
use Rattle.std.proofs.lemmas.Bool.{and_from}
use Rattle.std.proofs.lemmas.Str.{IsUtf8-from_is_utf8}
use Rattle.std.proofs.lemmas.Fmt.{decimal_is_IsNumeral}
use Rattle.std.proofs.lemmas.List.{take-append-drop}
use Rattle.std.proofs.lemmas.List.Folds.{list_all-append}
use Rattle.std.proofs.lemmas.Str.Parse.{digit_at}
use Rattle.page.specs.Marks.{AreInert, ArePrinted, digit, hidden, is_bare, is_inert, is_markup, is_printed, numbered, reference, shown_byte, shown_char, shown_text}

-- ---- lists

all_and : (test : ℕ → Bool) (a b : List ℕ) → list_all test a ≡ true → list_all test b ≡ true → list_all test (a ++ b) ≡ true
all_and test a b x y = list_all-append test a b ∙ and_from _ _ x y

all_flat : (test : ℕ → Bool) (f : ℕ → List ℕ) → ((c : ℕ) → list_all test (f c) ≡ true) → (cs : List ℕ) → list_all test (flat_map f cs) ≡ true
all_flat test f each [] = refl
all_flat test f each (c ∷ cs) = all_and test (f c) (flat_map f cs) (each c) (all_flat test f each cs)

-- what passes one test passes another
all_weaker : (strong weak : ℕ → Bool) → ((c : ℕ) → strong c ≡ true → weak c ≡ true) → (cs : List ℕ)
    → list_all strong cs ≡ true → list_all weak cs ≡ true
all_weaker strong weak each [] e = refl
all_weaker strong weak each (c ∷ cs) e = by (strong c) refl e (all_weaker strong weak each cs)
  where
    by : (b : Bool) → strong c ≡ b → (b && list_all strong cs) ≡ true
        → (list_all strong cs ≡ true → list_all weak cs ≡ true) → (weak c && list_all weak cs) ≡ true
    by true is rest more = and_from _ _ (each c is) (more rest)
    by false is rest more = absurd (true≢false (sym rest))

all_digits : (test : ℕ → Bool) → ((c : ℕ) → 48 ≤ c → c ≤ 57 → test c ≡ true) → (ds : List ℕ)
    → ((i : ℕ) → i < length ds → (48 ≤ get_or ds i 0) × (get_or ds i 0 ≤ 57)) → list_all test ds ≡ true
all_digits test each [] h = refl
all_digits test each (d ∷ ds) h =
    let first = h 0 (omega arith) in
    and_from _ _ (each d first.0 first.1) (all_digits test each ds (λ i l. h (suc i) (omega arith)))

all_decimal : (test : ℕ → Bool) → ((c : ℕ) → 48 ≤ c → c ≤ 57 → test c ≡ true) → (n : ℕ) → n < 2 ^ 64 → list_all test (decimal n) ≡ true
all_decimal test each n small = all_digits test each _ (λ i l. digit_at _ i (decimal_is_IsNumeral n small).0.1 l)

-- ---- printed bytes

bare_byte : (c : ℕ) → is_bare c ≡ true → is_printed c ≡ true
bare_byte c e = grind (arith, e)

pub bare_printed : (bytes : List ℕ) → list_all is_bare bytes ≡ true → ArePrinted bytes
bare_printed bytes e = all_weaker is_bare is_printed bare_byte bytes e

digit_printed : (c : ℕ) → 48 ≤ c → c ≤ 57 → is_printed c ≡ true
digit_printed c low high = grind (arith, low, high)

pub decimal_printed : (n : ℕ) → n < 2 ^ 64 → ArePrinted (decimal n)
decimal_printed n small = all_decimal is_printed digit_printed n small

-- ---- inert bytes

bare_inert : (c : ℕ) → is_bare c ≡ true → is_inert c ≡ true
bare_inert c e = grind (arith, e)

figure_inert : (c : ℕ) → 48 ≤ c → c ≤ 57 → is_inert c ≡ true
figure_inert c low high = grind (arith, low, high)

letter_inert : (number : ℕ) (b : Bool) → nat_lt number 16 ≡ b → is_inert (if b then 87 + number else 63) ≡ true
letter_inert number true e = grind (arith, e)
letter_inert number false e = refl

cut_inert : (number : ℕ) (b : Bool) → nat_lt number 10 ≡ b
    → is_inert (if b then 48 + number else if nat_lt number 16 then 87 + number else 63) ≡ true
cut_inert number true e = grind (arith, e)
cut_inert number false e = letter_inert number (nat_lt number 16) refl

digit_inert : (number : ℕ) → is_inert (digit number) ≡ true
digit_inert number = cut_inert number (nat_lt number 10) refl

hidden_inert : (c : ℕ) → AreInert (hidden c)
hidden_inert c = and_from _ _ (digit_inert (c / 16)) (and_from _ _ (digit_inert (c % 16)) refl)

reference_inert : (a b c d : Bool)
    → AreInert (if a then codes "&lt;" else if b then codes "&gt;" else if c then codes "&amp;" else if d then codes "&quot;" else codes "&#39;")
reference_inert true b c d = refl
reference_inert false true c d = refl
reference_inert false false true d = refl
reference_inert false false false true = refl
reference_inert false false false false = refl

numbered_inert : (c : ℕ) → AreInert (numbered c)
numbered_inert c =
    all_and is_inert (codes "&#") (decimal (min c 1114111) ++ codes ";") refl
    (all_and is_inert (decimal (min c 1114111)) (codes ";") (all_decimal is_inert figure_inert (min c 1114111) (omega arith)) refl)

char_inert : (c : ℕ) (bare mark low : Bool) → is_bare c ≡ bare
    → AreInert (if bare then c ∷ [] else if mark then reference c else if low then hidden c else numbered c)
char_inert c true mark low e = and_from _ _ (bare_inert c e) refl
char_inert c false true low e = reference_inert (c == 60) (c == 62) (c == 38) (c == 34)
char_inert c false false true e = hidden_inert c
char_inert c false false false e = numbered_inert c

shown_char_inert : (c : ℕ) → AreInert (shown_char c)
shown_char_inert c = char_inert c (is_bare c) (is_markup c) (nat_lt c 160) refl

byte_inert : (b : ℕ) (low : Bool) → AreInert (if low then shown_char b else hidden b)
byte_inert b true = shown_char_inert b
byte_inert b false = hidden_inert b

shown_byte_inert : (b : ℕ) → AreInert (shown_byte b)
shown_byte_inert b = byte_inert b (nat_lt b 128)

text_inert : (text : List ℕ) (bare utf8 : Bool) → list_all is_bare text ≡ bare
    → AreInert (if bare then text else if utf8 then flat_map shown_char (chars text) else flat_map shown_byte text)
text_inert text true utf8 e = all_weaker is_bare is_inert bare_inert text e
text_inert text false true e = all_flat is_inert shown_char shown_char_inert (chars text)
text_inert text false false e = all_flat is_inert shown_byte shown_byte_inert text

-- whatever a text holds, what is shown of it is inert
pub shown_inert : (text : List ℕ) → AreInert (shown_text text)
shown_inert text = text_inert text (list_all is_bare text) (is_utf8 text) refl

-- ---- UTF-8

pub not_utf8 : (bytes : List ℕ) → (IsUtf8 bytes → ⊥) → is_utf8 bytes ≡ false
not_utf8 bytes broken = by (is_utf8 bytes) refl
  where
    by : (b : Bool) → is_utf8 bytes ≡ b → is_utf8 bytes ≡ false
    by true e = absurd (broken (IsUtf8-from_is_utf8 bytes e))
    by false e = e

-- ---- parts of a list

both_printed : (a b : Bool) → (a && b) ≡ true → (a ≡ true) × (b ≡ true)
both_printed true b e = (refl, e)
both_printed false b e = absurd (true≢false (sym e))

cut_printed : (n : ℕ) (bytes : List ℕ) → ArePrinted bytes → ArePrinted (take n bytes) × ArePrinted (drop n bytes)
cut_printed n bytes e =
    both_printed _ _
    (sym (list_all-append is_printed (take n bytes) (drop n bytes)) ∙ ap (list_all is_printed) (take-append-drop n bytes) ∙ e)

pub take_printed : (n : ℕ) (bytes : List ℕ) → ArePrinted bytes → ArePrinted (take n bytes)
take_printed n bytes e = (cut_printed n bytes e).0

pub drop_printed : (n : ℕ) (bytes : List ℕ) → ArePrinted bytes → ArePrinted (drop n bytes)
drop_printed n bytes e = (cut_printed n bytes e).1
