-- Words, numbers and lines are read again as they were written.
use Rattle.std.proofs.Common.{◌≡◌, ◌==◌, ℕ, suc, ◌+◌, ◌*◌, ◌/◌, ◌%◌, ◌<◌, ◌≤◌, ◌^◌, Bool, true, false, not, ◌&&◌, if◌then◌else◌}
use Rattle.std.proofs.Common.{List, [], ◌∷◌, ◌++◌, length, take, drop, position, decimal, Option, Some, None, refl, sym, ap, subst, ◌∙◌, ◌≢◌, arith}
use Rattle.std.proofs.Common.{add-one, length-append, length-drop, take-append-drop}
use Rattle.std.specs.Prelude.{option_and_then, nat_lt}
use Rattle.std.specs.List.{list_all, prefix_len, position_or_len}
use Rattle.std.specs.Str.{bytes_eq}
use Rattle.std.proofs.Math.Seq.{take-append_seam, drop-append-add}
use Rattle.std.proofs.lemmas.Bool.{and_from, and_parts}
use Rattle.std.proofs.lemmas.Bool.Decides.{nat_tests, Decides-eqb, Decides-ltb, not_from_Decides}
use Rattle.std.proofs.lemmas.Fmt.{decimal_by_steps}
use Rattle.std.proofs.lemmas.List.Folds.{list_all-append}
use Rattle.std.proofs.lemmas.Slice.Eq.{bytes_eq-Decides}
use Rattle.handshake.specs.Digits.{is_digit, are_digits, digits_in}
use Rattle.handshake.specs.Numbers.{digit_onto, wide_from, as_written, wide_in, below, number_in, from_one, leaf_in}
use Rattle.handshake.specs.Reading.{is_letter, word_of, rest_of}

-- ---- tests of each byte

list_all-weaken : (p q : ℕ → Bool) (xs : List ℕ) → ((x : ℕ) → p x ≡ true → q x ≡ true) → list_all p xs ≡ true → list_all q xs ≡ true
list_all-weaken p q [] weaker all = refl
list_all-weaken p q (x ∷ xs) weaker all =
    let both = and_parts (p x) (list_all p xs) all in
    ap (λ b. b && list_all q xs) (weaker x both.0) ∙ list_all-weaken p q xs weaker both.1

-- ---- where a word ends

prefix_len-stop : (p : ℕ → Bool) (xs : List ℕ) (y : ℕ) (ys : List ℕ) → list_all p xs ≡ true → p y ≡ false → prefix_len p (xs ++ y ∷ ys) ≡ length xs
prefix_len-stop p [] y ys all stop = ap (λ (b : Bool). if b then 1 + prefix_len p ys else 0) stop
prefix_len-stop p (x ∷ xs) y ys all stop =
    let both = and_parts (p x) (list_all p xs) all in
    ap (λ (b : Bool). if b then 1 + prefix_len p (xs ++ y ∷ ys) else 0) both.0 ∙ omega (arith, prefix_len-stop p xs y ys both.1 stop)

pub word_of-word : (word rest : List ℕ) → list_all is_letter word ≡ true → word_of (word ++ 32 ∷ rest) ≡ word
word_of-word word rest letters =
    ap (λ n. take n (word ++ 32 ∷ rest)) (prefix_len-stop is_letter word 32 rest letters refl) ∙ take-append_seam word (32 ∷ rest)

pub rest_of-word : (word rest : List ℕ) → list_all is_letter word ≡ true → rest_of (word ++ 32 ∷ rest) ≡ rest
rest_of-word word rest letters =
    ap (λ n. drop (n + 1) (word ++ 32 ∷ rest)) (prefix_len-stop is_letter word 32 rest letters refl) ∙ drop-append-add word (32 ∷ rest) 1

-- ---- where a line ends

abbrev pub is_inside : ℕ → Bool
is_inside b = not (b == 10)

pub line_end : (line rest : List ℕ) → list_all is_inside line ≡ true → position (λ b. b == 10) (line ++ 10 ∷ rest) ≡ Some (length line)
line_end line rest inside =
    let at : position_or_len (λ b. b == 10) (line ++ 10 ∷ rest) ≡ length line = prefix_len-stop is_inside line 10 rest inside refl in
    let within = (Decides-ltb (position_or_len (λ b. b == 10) (line ++ 10 ∷ rest)) (length (line ++ 10 ∷ rest))).1
    (omega (arith, at, length-append line (10 ∷ rest))) in
    ap (λ (b : Bool). if b then Some (position_or_len (λ b. b == 10) (line ++ 10 ∷ rest)) else None) within ∙ ap Some at

-- ---- digits

digit-letter : (b : ℕ) → is_digit b ≡ true → is_letter b ≡ true
digit-letter b digit = grind (arith, nat_tests, digit)

digit-inside : (b : ℕ) → is_digit b ≡ true → is_inside b ≡ true
digit-inside b digit = grind (arith, nat_tests, digit)

pub digits-letters : (word : List ℕ) → list_all is_digit word ≡ true → list_all is_letter word ≡ true
digits-letters word = list_all-weaken is_digit is_letter word digit-letter

pub digits-inside : (word : List ℕ) → list_all is_digit word ≡ true → list_all is_inside word ≡ true
digits-inside word = list_all-weaken is_digit is_inside word digit-inside

-- ---- numbers

decimal_digit : (n : ℕ) → n < 10 → is_digit (48 + n) ≡ true
decimal_digit n small = grind (arith, nat_tests, small)

pub decimal-digits : (n : ℕ) → n < 2 ^ 64 → list_all is_digit (decimal n) ≡ true
decimal-digits n small = decimal_by_steps (λ m ds. list_all is_digit ds ≡ true)
    (λ m less. ap (λ b. b && true) (decimal_digit m less))
    (λ m ds more all. list_all-append is_digit ds ((48 + m % 10) ∷ [])
    ∙ and_from (list_all is_digit ds) (list_all is_digit ((48 + m % 10) ∷ [])) all (ap (λ b. b && true) (decimal_digit (m % 10) (omega arith))))
    n small

digit_onto-digit : (value d : ℕ) → d < 10 → value * 10 + d < 4294967296 → digit_onto value (48 + d) ≡ Some (value * 10 + d)
digit_onto-digit value d digit fits = grind (arith, nat_tests, digit, fits)

wide_from-append : (value : ℕ) (xs ys : List ℕ) → wide_from value (xs ++ ys) ≡ option_and_then (λ longer. wide_from longer ys) (wide_from value xs)
wide_from-append value [] ys = refl
wide_from-append value (x ∷ xs) ys = by (λ longer. wide_from-append longer xs ys) (digit_onto value x)
  where
    by : ((longer : ℕ) → wide_from longer (xs ++ ys) ≡ option_and_then (λ longer. wide_from longer ys) (wide_from longer xs)) → (longer : Option ℕ)
        → option_and_then (λ longer. wide_from longer (xs ++ ys)) longer
        ≡ option_and_then (λ longer. wide_from longer ys) (option_and_then (λ longer. wide_from longer xs) longer)
    by next None = refl
    by next (Some longer) = next longer

wide_from-decimal : (n : ℕ) → n < 2 ^ 64 → n < 4294967296 → wide_from 0 (decimal n) ≡ Some n
wide_from-decimal n small = decimal_by_steps (λ m ds. m < 4294967296 → wide_from 0 ds ≡ Some m) one more n small
  where
    one : (m : ℕ) → m < 10 → m < 4294967296 → wide_from 0 ((48 + m) ∷ []) ≡ Some m
    one m less fits = ap (λ o. option_and_then (λ longer. wide_from longer []) o) (digit_onto-digit 0 m less (omega arith)) ∙ ap Some (omega arith)

    more : (m : ℕ) (ds : List ℕ) → 10 ≤ m → (m / 10 < 4294967296 → wide_from 0 ds ≡ Some (m / 10)) → m < 4294967296
        → wide_from 0 (ds ++ (48 + m % 10) ∷ []) ≡ Some m
    more m ds long front fits =
        wide_from-append 0 ds ((48 + m % 10) ∷ [])
        ∙ ap (λ o. option_and_then (λ longer. wide_from longer ((48 + m % 10) ∷ [])) o) (front (omega arith))
        ∙ ap (λ o. option_and_then (λ longer. wide_from longer []) o) (digit_onto-digit (m / 10) (m % 10) (omega arith) (omega arith))
        ∙ ap Some (omega arith)

pub wide_in-decimal : (n : ℕ) → n < 4294967296 → wide_in (decimal n) ≡ Some n
wide_in-decimal n fits =
    ap (as_written (decimal n)) (wide_from-decimal n (omega arith) fits)
    ∙ ap (λ (b : Bool). if b then Some n else None) ((bytes_eq-Decides (decimal n) (decimal n)).1 refl)

pub number_in-decimal : (n : ℕ) → n < 65536 → number_in (decimal n) ≡ Some n
number_in-decimal n fits =
    ap (below 65536) (wide_in-decimal n (omega arith))
    ∙ ap (λ (b : Bool). if b then Some n else None) ((Decides-ltb n 65536).1 fits)

-- a word that is read as a number is how the number is written
as_written-some : (word : List ℕ) (value : Option ℕ) (n : ℕ) → as_written word value ≡ Some n → decimal n ≡ word
as_written-some word None n is = cc
as_written-some word (Some value) n is = by (bytes_eq (decimal value) word) refl is
  where
    by : (b : Bool) → bytes_eq (decimal value) word ≡ b → (if b then Some value else None) ≡ Some n → decimal n ≡ word
    by true same some = let e : value ≡ n = cc in subst (λ m. decimal m ≡ word) e ((bytes_eq-Decides (decimal value) word).0 same)
    by false same some = cc

below-some : (limit : ℕ) (value : Option ℕ) (n : ℕ) → below limit value ≡ Some n → (value ≡ Some n) × (n < limit)
below-some limit None n is = cc
below-some limit (Some value) n is = by (nat_lt value limit) refl is
  where
    by : (b : Bool) → nat_lt value limit ≡ b → (if b then Some value else None) ≡ Some n → (Some value ≡ Some n) × (n < limit)
    by true less some = (some, let e : value ≡ n = cc in subst (λ m. m < limit) e ((Decides-ltb value limit).0 less))
    by false less some = cc

pub number_in-some : (word : List ℕ) (n : ℕ) → number_in word ≡ Some n → (decimal n ≡ word) × (n < 65536)
number_in-some word n is =
    let within = below-some 65536 (wide_in word) n is in
    (as_written-some word (wide_from 0 word) n within.0, within.1)

-- the number of a leaf
pub leaf_in-decimal : (leaf : ℕ) → 0 < leaf → leaf < 65536 → leaf_in (decimal leaf) ≡ Some leaf
leaf_in-decimal leaf some small = ap from_one (number_in-decimal leaf small) ∙ by (leaf == 0) refl
  where
    by : (b : Bool) → (leaf == 0) ≡ b → (if b then None else Some leaf) ≡ Some leaf
    by true none = absurd (omega (arith, (Decides-eqb leaf 0).0 none))
    by false none = refl

pub leaf_in-some : (word : List ℕ) (leaf : ℕ) → leaf_in word ≡ Some leaf → (decimal leaf ≡ word) × (0 < leaf) × (leaf < 65536)
leaf_in-some word leaf is = by (number_in word) refl is
  where
    at : (n : ℕ) (b : Bool) → (n == 0) ≡ b → (if b then None else Some n) ≡ Some leaf → (n ≡ leaf) × (0 < leaf)
    at n true none some = cc
    at n false none some =
        let e : n ≡ leaf = cc in
        let not_none : n ≢ 0 = not_from_Decides (n == 0) (Decides-eqb n 0) none in
        (e, omega (arith, e, not_none))

    by : (number : Option ℕ) → number_in word ≡ number → from_one number ≡ Some leaf → (decimal leaf ≡ word) × (0 < leaf) × (leaf < 65536)
    by None says some = cc
    by (Some n) says some =
        let e = at n (n == 0) refl some in
        let from = number_in-some word n says in
        (subst (λ m. decimal m ≡ word) e.0 from.0, e.1, subst (λ m. m < 65536) e.0 from.1)

-- ---- texts of so many digits

pub digits_in-some : (count : ℕ) (word digits : List ℕ) → digits_in count word ≡ Some digits → (word ≡ digits) × (are_digits count digits ≡ true)
digits_in-some count word digits is = by (are_digits count word) refl is
  where
    by : (b : Bool) → are_digits count word ≡ b → (if b then Some word else None) ≡ Some digits
        → (word ≡ digits) × (are_digits count digits ≡ true)
    by true are some = let e : word ≡ digits = cc in (e, subst (λ w. are_digits count w ≡ true) e are)
    by false are some = cc

pub digits_in-digits : (count : ℕ) (word : List ℕ) → are_digits count word ≡ true → digits_in count word ≡ Some word
digits_in-digits count word are = ap (λ (b : Bool). if b then Some word else None) are

pub are_digits-all : (count : ℕ) (word : List ℕ) → are_digits count word ≡ true → list_all is_digit word ≡ true
are_digits-all count word are = (and_parts (length word == count) (list_all is_digit word) are).1

-- ---- what stands before and after the byte that ends a word or a line

split_at : (p : ℕ → Bool) (end : ℕ) → ((x : ℕ) → p x ≡ false → x ≡ end) → (xs : List ℕ) → prefix_len p xs < length xs
    → xs ≡ take (prefix_len p xs) xs ++ end ∷ drop (suc (prefix_len p xs)) xs
split_at p end only [] within = absurd (omega arith)
split_at p end only (x ∷ xs) within = by (split_at p end only xs) (p x) refl
  where
    by : (prefix_len p xs < length xs → xs ≡ take (prefix_len p xs) xs ++ end ∷ drop (suc (prefix_len p xs)) xs) → (b : Bool) → p x ≡ b
        → x ∷ xs ≡ take (prefix_len p (x ∷ xs)) (x ∷ xs) ++ end ∷ drop (suc (prefix_len p (x ∷ xs))) (x ∷ xs)
    by next true passes =
        let len : prefix_len p (x ∷ xs) ≡ suc (prefix_len p xs) = ap (λ (b : Bool). if b then 1 + prefix_len p xs else 0) passes ∙ omega arith in
        let less : prefix_len p xs < length xs = omega (arith, len, within) in
        rw len (ap (λ ys. x ∷ ys) (next less))
    by next false fails =
        let len : prefix_len p (x ∷ xs) ≡ 0 = ap (λ (b : Bool). if b then 1 + prefix_len p xs else 0) fails in
        rw len (ap (λ y. y ∷ xs) (only x fails))

not_letter : (x : ℕ) → is_letter x ≡ false → x ≡ 32
not_letter x fails = grind (arith, nat_tests, fails)

not_inside : (x : ℕ) → is_inside x ≡ false → x ≡ 10
not_inside x fails = grind (arith, nat_tests, fails)

-- a text with something after its first word
pub words_split : (words : List ℕ) → 0 < length (rest_of words) → words ≡ word_of words ++ 32 ∷ rest_of words
words_split words more =
    split_at is_letter 32 not_letter words (omega (arith, more, length-drop (prefix_len is_letter words + 1) words))
    ∙ ap (λ n. word_of words ++ 32 ∷ drop n words) (sym (add-one (prefix_len is_letter words)))

-- a text with a line feed
pub lines_split : (bytes : List ℕ) (end : ℕ) → position (λ b. b == 10) bytes ≡ Some end → bytes ≡ take end bytes ++ 10 ∷ drop (suc end) bytes
lines_split bytes end is = by (nat_lt (position_or_len (λ b. b == 10) bytes) (length bytes)) refl is
  where
    by : (b : Bool) → nat_lt (position_or_len (λ b. b == 10) bytes) (length bytes) ≡ b
        → (if b then Some (position_or_len (λ b. b == 10) bytes) else None) ≡ Some end
        → bytes ≡ take end bytes ++ 10 ∷ drop (suc end) bytes
    by true within some =
        let at : position_or_len (λ b. b == 10) bytes ≡ end = cc in
        let less : prefix_len is_inside bytes < length bytes = (Decides-ltb _ _).0 within in
        subst (λ n. bytes ≡ take n bytes ++ 10 ∷ drop (suc n) bytes) at (split_at is_inside 10 not_inside bytes less)
    by false within some = cc

-- a text that begins with some literal
pub begins : (text front : List ℕ) (n : ℕ) → bytes_eq (take n text) front ≡ true → text ≡ front ++ drop n text
begins text front n same =
    sym (take-append-drop n text) ∙ ap (λ xs. xs ++ drop n text) ((bytes_eq-Decides (take n text) front).0 same)
