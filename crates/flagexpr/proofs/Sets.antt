-- Sets of letters: which letters a number has, and that its letters determine it.
use Rattle.std.proofs.Common.{◌≡◌, ℕ, ◌+◌, ◌*◌, ◌%◌, ◌^◌, ◌<◌, ◌≢◌, min, nat_lt, Bool, true, false, not, cond, eqb, ◌&&◌, ◌||◌, List, [], ◌∷◌, length, get_or, bit_and, bit_or, refl, sym, ap, ◌∙◌, subst, arith, ⊎_elim, if◌then◌else◌}
use Rattle.std.specs.List.{list_all, list_any, filter, fold}
use Rattle.std.specs.Char.{is_ascii_alphabetic}
use Rattle.std.specs.Int.{bit_at}
use Rattle.std.proofs.lemmas.Bool.{cases_eq, cases_Bool, cond_both, false_from_ne_true, true_from_ne_false, agree_below_at, eqb-true, eq-eqb, ne_eqb, false≢true}
use Rattle.std.proofs.lemmas.Bool.Decides.{nat_tests}
use Rattle.std.proofs.lemmas.Nat.{or_lt, and_le_l}
use Rattle.std.proofs.lemmas.Nat.Bits.{bit_at_and, bit_at-zero, bit_at-lt, bit_at-pow_same, bit_at-pow_other, same_from_bits_below}
use Rattle.std.proofs.lemmas.List.Folds.{list_any_at}
use Rattle.std.proofs.lemmas.List.Recursion.{and_at}
use Rattle.std.proofs.Math.Bool.{or_assoc}
use Rattle.std.proofs.Math.Pow.{pow-lt}
use Rattle.bytetext.proofs.Bits.{bit_test_or}
use Rattle.flagexpr.specs.Letters.{place_of, has_letter, with_letter, set_of, letters, shares, is_within, dash_for_none, spelling}

-- ---- letters and their bits

-- the letter of a bit
abbrev letter_at : ℕ → ℕ
letter_at i = if nat_lt i 26 then 97 + i else 39 + i

place_of-lt : (b : ℕ) → is_ascii_alphabetic b ≡ true → place_of b < 52
place_of-lt b h = grind (arith, nat_tests)

letter_at-place_of : (b : ℕ) → is_ascii_alphabetic b ≡ true → letter_at (place_of b) ≡ b
letter_at-place_of b h = grind (arith, nat_tests)

place_of-letter_at : (i : ℕ) → i < 52 → place_of (letter_at i) ≡ i
place_of-letter_at i h = grind (arith, nat_tests)

is_letter-letter_at : (i : ℕ) → i < 52 → is_ascii_alphabetic (letter_at i) ≡ true
is_letter-letter_at i h = grind (arith, nat_tests)

-- two letters with one bit are one letter
same_from_place_of : (a b : ℕ) → is_ascii_alphabetic a ≡ true → is_ascii_alphabetic b ≡ true → place_of a ≡ place_of b → a ≡ b
same_from_place_of a b ha hb e = sym (letter_at-place_of a ha) ∙ ap letter_at e ∙ letter_at-place_of b hb

-- the list of all letters has each at its bit
get_or-letters : (i : ℕ) → i < 52 → get_or letters i 0 ≡ letter_at i
unfolding letters
get_or-letters i h =
    eqb-true _ _ (agree_below_at (λ k. eqb (get_or letters k 0) (letter_at k)) (λ _. true) 52 i refl h)

length-letters : length letters ≡ 52
unfolding letters
length-letters = refl

-- ---- one letter of a set

-- only letters are in a set
has_letter-no : (flags b : ℕ) → is_ascii_alphabetic b ≡ false → has_letter flags b ≡ false
unfolding has_letter
has_letter-no flags b h = ap (λ t. t && eqb (bit_at flags (place_of b)) 1) h

-- a letter is in a set where its bit is set
has_letter-yes : (flags b : ℕ) → is_ascii_alphabetic b ≡ true → has_letter flags b ≡ eqb (bit_at flags (place_of b)) 1
unfolding has_letter
has_letter-yes flags b h = ap (λ t. t && eqb (bit_at flags (place_of b)) 1) h

has_letter-letter_at : (flags i : ℕ) → i < 52 → has_letter flags (letter_at i) ≡ eqb (bit_at flags i) 1
has_letter-letter_at flags i h =
    has_letter-yes flags (letter_at i) (is_letter-letter_at i h) ∙ ap (λ k. eqb (bit_at flags k) 1) (place_of-letter_at i h)

has_letter-empty : (b : ℕ) → has_letter 0 b ≡ false
has_letter-empty b =
    ⊎_elim (λ yes. has_letter-yes 0 b yes ∙ ap (λ k. eqb k 1) (bit_at-zero (place_of b))) (λ none. has_letter-no 0 b none)
    (cases_Bool (is_ascii_alphabetic b))

bit_from_test : (m n : ℕ) → m < 2 → n < 2 → eqb m 1 ≡ eqb n 1 → m ≡ n
bit_from_test m n hm hn e = grind (arith, nat_tests)

-- sets with the same letters are the same number
pub same_from_letters : (a b : ℕ) → a < 2 ^ 52 → b < 2 ^ 52 → ((letter : ℕ) → has_letter a letter ≡ has_letter b letter) → a ≡ b
same_from_letters a b ha hb h =
    same_from_bits_below 52 a b ha hb
    (λ i small. bit_from_test _ _ (bit_at-lt a i) (bit_at-lt b i)
    (sym (has_letter-letter_at a i small) ∙ h (letter_at i) ∙ has_letter-letter_at b i small))

-- ---- a letter more

with_letter-lt : (flags b : ℕ) → flags < 2 ^ 52 → with_letter flags b < 2 ^ 52
unfolding with_letter
with_letter-lt flags b small =
    cond_both (is_ascii_alphabetic b) _ _ (λ n. n < 2 ^ 52)
    (λ yes. or_lt 52 flags (2 ^ place_of b) small (pow-lt (place_of-lt b yes))) (λ _. small)

-- what `|` with `1 << place` gives
pub set_bit-lt : (flags k : ℕ) → flags < 2 ^ 52 → k < 52 → bit_or flags (1 * 2 ^ k % 2 ^ 64) < 2 ^ 52
set_bit-lt flags k small within =
    let power : 2 ^ k < 2 ^ 52 = pow-lt within in
    or_lt 52 flags (1 * 2 ^ k % 2 ^ 64) small (omega arith)

pub set_of-lt : (flags : ℕ) (bytes : List ℕ) → flags < 2 ^ 52 → fold with_letter flags bytes < 2 ^ 52
set_of-lt flags [] small = small
set_of-lt flags (b ∷ bytes) small = set_of-lt (with_letter flags b) bytes (with_letter-lt flags b small)

-- whether the bit of one letter is that of another
pow_test : (b letter : ℕ) → is_ascii_alphabetic b ≡ true → is_ascii_alphabetic letter ≡ true → eqb (bit_at (2 ^ place_of b) (place_of letter)) 1 ≡ eqb b letter
pow_test b letter hb hl =
    ⊎_elim
    (λ same. ap (λ k. eqb (bit_at (2 ^ place_of b) (place_of k)) 1) (sym same) ∙ ap (λ k. eqb k 1) (bit_at-pow_same (place_of b)) ∙ sym (eq-eqb b letter same))
    (λ other. ap (λ k. eqb k 1) (bit_at-pow_other (place_of b) (place_of letter) (λ e. other (same_from_place_of b letter hb hl (sym e))))
    ∙ sym (ne_eqb b letter other))
    (cases_eq b letter)

with_letter-yes : (flags b letter : ℕ) → is_ascii_alphabetic b ≡ true → is_ascii_alphabetic letter ≡ true
    → has_letter (with_letter flags b) letter ≡ (has_letter flags letter || eqb b letter)
unfolding with_letter
with_letter-yes flags b letter hb hl =
    ap (λ t. has_letter (cond t (bit_or flags (2 ^ place_of b)) flags) letter) hb
    ∙ has_letter-yes (bit_or flags (2 ^ place_of b)) letter hl
    ∙ bit_test_or flags (2 ^ place_of b) (place_of letter)
    ∙ ap (λ t. eqb (bit_at flags (place_of letter)) 1 || t) (pow_test b letter hb hl)
    ∙ ap (λ t. t || eqb b letter) (sym (has_letter-yes flags letter hl))

or-false : (t : Bool) → t ≡ (t || false)
or-false true = refl
or-false false = refl

-- what is no letter is not the letter that one looks for
with_letter-no : (flags b letter : ℕ) → is_ascii_alphabetic b ≡ false → is_ascii_alphabetic letter ≡ true
    → has_letter (with_letter flags b) letter ≡ (has_letter flags letter || eqb b letter)
unfolding with_letter
with_letter-no flags b letter hb hl =
    ap (λ t. has_letter (cond t (bit_or flags (2 ^ place_of b)) flags) letter) hb ∙ or-false (has_letter flags letter)
    ∙ ap (λ t. has_letter flags letter || t) (sym (ne_eqb b letter (λ e. absurd (false≢true (sym hb ∙ ap is_ascii_alphabetic e ∙ hl)))))

has_letter-with_letter : (flags b letter : ℕ) → is_ascii_alphabetic letter ≡ true
    → has_letter (with_letter flags b) letter ≡ (has_letter flags letter || eqb b letter)
has_letter-with_letter flags b letter hl =
    ⊎_elim (λ yes. with_letter-yes flags b letter yes hl) (λ none. with_letter-no flags b letter none hl) (cases_Bool (is_ascii_alphabetic b))

has_letter-fold : (flags : ℕ) (bytes : List ℕ) (letter : ℕ) → is_ascii_alphabetic letter ≡ true
    → has_letter (fold with_letter flags bytes) letter ≡ (has_letter flags letter || list_any (λ b. eqb b letter) bytes)
has_letter-fold flags [] letter hl = or-false (has_letter flags letter)
has_letter-fold flags (b ∷ bytes) letter hl =
    has_letter-fold (with_letter flags b) bytes letter hl
    ∙ ap (λ t. t || list_any (λ b. eqb b letter) bytes) (has_letter-with_letter flags b letter hl)
    ∙ or_assoc (has_letter flags letter) (eqb b letter) (list_any (λ b. eqb b letter) bytes)

-- a letter is in the set of a text where it stands in the text
pub has_letter-set_of : (bytes : List ℕ) (letter : ℕ) → has_letter (set_of bytes) letter ≡ (is_ascii_alphabetic letter && list_any (λ b. eqb b letter) bytes)
has_letter-set_of bytes letter =
    ⊎_elim
    (λ yes. has_letter-fold 0 bytes letter yes ∙ ap (λ t. t || list_any (λ b. eqb b letter) bytes) (has_letter-empty letter)
    ∙ ap (λ t. t && list_any (λ b. eqb b letter) bytes) (sym yes))
    (λ none. has_letter-no (set_of bytes) letter none ∙ ap (λ t. t && list_any (λ b. eqb b letter) bytes) (sym none))
    (cases_Bool (is_ascii_alphabetic letter))

-- ---- two sets

passes_none : (p : ℕ → Bool) (xs : List ℕ) → ((x : ℕ) → p x ≡ false) → list_any p xs ≡ false
passes_none p [] h = refl
passes_none p (x ∷ xs) h = ap (λ t. t || list_any p xs) (h x) ∙ passes_none p xs h

passes_all : (p : ℕ → Bool) (xs : List ℕ) → ((x : ℕ) → p x ≡ true) → list_all p xs ≡ true
passes_all p [] h = refl
passes_all p (x ∷ xs) h = ap (λ t. t && list_all p xs) (h x) ∙ passes_all p xs h

-- the test of each letter of a list that no letter passes
fails_each : (p : ℕ → Bool) → list_any p letters ≡ false → (i : ℕ) → i < 52 → p (letter_at i) ≡ false
fails_each p h i small =
    false_from_ne_true (p (letter_at i))
    (λ yes. absurd (false≢true (sym h ∙ list_any_at p letters i 0 (subst (λ n. i < n) (sym length-letters) small) (ap p (get_or-letters i small) ∙ yes))))

passes_each : (p : ℕ → Bool) → list_all p letters ≡ true → (i : ℕ) → i < 52 → p (letter_at i) ≡ true
passes_each p h i small =
    ap p (sym (get_or-letters i small)) ∙ and_at (list_all p) p refl (λ _ _. refl) letters i 0 (subst (λ n. i < n) (sym length-letters) small) h

bit_none : (m n : ℕ) → m < 2 → n < 2 → (eqb m 1 && eqb n 1) ≡ false → min m n ≡ 0
bit_none m n hm hn e = grind (arith, nat_tests)

bit_kept : (m n : ℕ) → m < 2 → n < 2 → cond (eqb m 1) (eqb n 1) true ≡ true → min m n ≡ m
bit_kept m n hm hn e = grind (arith, nat_tests)

bit_apart : (m n : ℕ) → min m n ≡ 0 → (eqb m 1 && eqb n 1) ≡ false
bit_apart m n e = grind (arith, nat_tests)

bit_within : (m n : ℕ) → m < 2 → n < 2 → min m n ≡ m → cond (eqb m 1) (eqb n 1) true ≡ true
bit_within m n hm hn e = grind (arith, nat_tests)

-- no bit in common: no letter in common
apart_at : (a b : ℕ) → bit_and a b ≡ 0 → (letter : ℕ) → (has_letter a letter && has_letter b letter) ≡ false
apart_at a b e letter =
    ⊎_elim
    (λ yes. ap (λ t. t && has_letter b letter) (has_letter-yes a letter yes) ∙ ap (λ t. eqb (bit_at a (place_of letter)) 1 && t) (has_letter-yes b letter yes)
    ∙ bit_apart _ _ (sym (bit_at_and a b (place_of letter)) ∙ ap (λ n. bit_at n (place_of letter)) e ∙ bit_at-zero (place_of letter)))
    (λ none. ap (λ t. t && has_letter b letter) (has_letter-no a letter none))
    (cases_Bool (is_ascii_alphabetic letter))

within_at : (a b : ℕ) → bit_and a b ≡ a → (letter : ℕ) → cond (has_letter a letter) (has_letter b letter) true ≡ true
within_at a b e letter =
    ⊎_elim
    (λ yes. ap (λ t. cond t (has_letter b letter) true) (has_letter-yes a letter yes)
    ∙ ap (λ t. cond (eqb (bit_at a (place_of letter)) 1) t true) (has_letter-yes b letter yes)
    ∙ bit_within _ _ (bit_at-lt a (place_of letter)) (bit_at-lt b (place_of letter)) (sym (bit_at_and a b (place_of letter))
    ∙ ap (λ n. bit_at n (place_of letter)) e))
    (λ none. ap (λ t. cond t (has_letter b letter) true) (has_letter-no a letter none))
    (cases_Bool (is_ascii_alphabetic letter))

apart_from_letters : (a b : ℕ) → a < 2 ^ 52 → list_any (λ letter. has_letter a letter && has_letter b letter) letters ≡ false → bit_and a b ≡ 0
apart_from_letters a b small h =
    let below : bit_and a b < 2 ^ 52 = omega (arith, and_le_l a b) in
    same_from_bits_below 52 (bit_and a b) 0 below (omega arith)
    (λ i within. bit_at_and a b i
    ∙ bit_none _ _ (bit_at-lt a i) (bit_at-lt b i)
    (ap (λ t. t && eqb (bit_at b i) 1) (sym (has_letter-letter_at a i within))
    ∙ ap (λ t. has_letter a (letter_at i) && t) (sym (has_letter-letter_at b i within))
    ∙ fails_each (λ letter. has_letter a letter && has_letter b letter) h i within)
    ∙ sym (bit_at-zero i))

within_from_letters : (a b : ℕ) → a < 2 ^ 52 → list_all (λ letter. cond (has_letter a letter) (has_letter b letter) true) letters ≡ true → bit_and a b ≡ a
within_from_letters a b small h =
    let below : bit_and a b < 2 ^ 52 = omega (arith, and_le_l a b) in
    same_from_bits_below 52 (bit_and a b) a below small
    (λ i within. bit_at_and a b i
    ∙ bit_kept _ _ (bit_at-lt a i) (bit_at-lt b i)
    (ap (λ t. cond t (eqb (bit_at b i) 1) true) (sym (has_letter-letter_at a i within))
    ∙ ap (λ t. cond (has_letter a (letter_at i)) t true) (sym (has_letter-letter_at b i within))
    ∙ passes_each (λ letter. cond (has_letter a letter) (has_letter b letter) true) h i within))

-- sets share a letter where they share a bit
pub shares-bit_and : (a b : ℕ) → a < 2 ^ 52 → shares a b ≡ not (eqb (bit_and a b) 0)
unfolding shares
shares-bit_and a b small =
    ⊎_elim
    (λ none. passes_none _ letters (apart_at a b none) ∙ ap not (sym (eq-eqb (bit_and a b) 0 none)))
    (λ some. true_from_ne_false _ (λ h. absurd (some (apart_from_letters a b small h))) ∙ ap not (sym (ne_eqb (bit_and a b) 0 some)))
    (cases_eq (bit_and a b) 0)

-- a set is within another where that has its bits
pub is_within-bit_and : (a b : ℕ) → a < 2 ^ 52 → is_within a b ≡ eqb (bit_and a b) a
unfolding is_within
is_within-bit_and a b small =
    ⊎_elim
    (λ same. passes_all _ letters (within_at a b same) ∙ sym (eq-eqb (bit_and a b) a same))
    (λ other. false_from_ne_true _ (λ h. absurd (other (within_from_letters a b small h))) ∙ sym (ne_eqb (bit_and a b) a other))
    (cases_eq (bit_and a b) a)

-- ---- the text of a set

and-false : (t : Bool) → false ≡ (t && false)
and-false true = refl
and-false false = refl

and-true : (t : Bool) → (t && true) ≡ t
and-true true = refl
and-true false = refl

any_kept_same : (p : ℕ → Bool) (letter x : ℕ) (xs : List ℕ) → x ≡ letter
    → list_any (λ b. eqb b letter) (filter p xs) ≡ (p letter && list_any (λ b. eqb b letter) xs)
    → list_any (λ b. eqb b letter) (filter p (x ∷ xs)) ≡ (p letter && list_any (λ b. eqb b letter) (x ∷ xs))
any_kept_same p letter x xs same h =
    ⊎_elim
    (λ yes. ap (λ t. list_any (λ b. eqb b letter) (cond t (x ∷ filter p xs) (filter p xs))) (ap p same ∙ yes)
    ∙ ap (λ t. t || list_any (λ b. eqb b letter) (filter p xs)) (eq-eqb x letter same)
    ∙ ap (λ t. t && true) (sym yes)
    ∙ ap (λ t. p letter && (t || list_any (λ b. eqb b letter) xs)) (sym (eq-eqb x letter same)))
    (λ none. ap (λ t. list_any (λ b. eqb b letter) (cond t (x ∷ filter p xs) (filter p xs))) (ap p same ∙ none) ∙ h
    ∙ ap (λ t. t && list_any (λ b. eqb b letter) xs) none
    ∙ ap (λ t. t && list_any (λ b. eqb b letter) (x ∷ xs)) (sym none))
    (cases_Bool (p letter))

any_kept_other : (p : ℕ → Bool) (letter x : ℕ) (xs : List ℕ) → x ≢ letter
    → list_any (λ b. eqb b letter) (filter p xs) ≡ (p letter && list_any (λ b. eqb b letter) xs)
    → list_any (λ b. eqb b letter) (filter p (x ∷ xs)) ≡ (p letter && list_any (λ b. eqb b letter) (x ∷ xs))
any_kept_other p letter x xs other h =
    ⊎_elim
    (λ yes. ap (λ t. list_any (λ b. eqb b letter) (cond t (x ∷ filter p xs) (filter p xs))) yes
    ∙ ap (λ t. t || list_any (λ b. eqb b letter) (filter p xs)) (ne_eqb x letter other) ∙ h
    ∙ ap (λ t. p letter && (t || list_any (λ b. eqb b letter) xs)) (sym (ne_eqb x letter other)))
    (λ none. ap (λ t. list_any (λ b. eqb b letter) (cond t (x ∷ filter p xs) (filter p xs))) none ∙ h
    ∙ ap (λ t. p letter && (t || list_any (λ b. eqb b letter) xs)) (sym (ne_eqb x letter other)))
    (cases_Bool (p x))

-- a filter keeps what passes
any_kept : (p : ℕ → Bool) (letter : ℕ) (xs : List ℕ) → list_any (λ b. eqb b letter) (filter p xs) ≡ (p letter && list_any (λ b. eqb b letter) xs)
any_kept p letter [] = and-false (p letter)
any_kept p letter (x ∷ xs) =
    ⊎_elim
    (λ same. any_kept_same p letter x xs same (any_kept p letter xs))
    (λ other. any_kept_other p letter x xs other (any_kept p letter xs))
    (cases_eq x letter)

any_dash : (letter : ℕ) (xs : List ℕ) → is_ascii_alphabetic letter ≡ true → list_any (λ b. eqb b letter) (dash_for_none xs) ≡ list_any (λ b. eqb b letter) xs
any_dash letter [] h = ap (λ t. t || false) (ne_eqb 45 letter (λ e. absurd (false≢true (ap is_ascii_alphabetic e ∙ h))))
any_dash letter (x ∷ xs) h = refl

any_letter : (letter : ℕ) → is_ascii_alphabetic letter ≡ true → list_any (λ b. eqb b letter) letters ≡ true
any_letter letter h =
    list_any_at (λ b. eqb b letter) letters (place_of letter) 0 (subst (λ n. place_of letter < n) (sym length-letters) (place_of-lt letter h))
    (eq-eqb _ letter (get_or-letters (place_of letter) (place_of-lt letter h) ∙ letter_at-place_of letter h))

has_letter-spelling : (flags letter : ℕ) → has_letter (set_of (spelling flags)) letter ≡ has_letter flags letter
unfolding spelling
has_letter-spelling flags letter =
    has_letter-set_of (spelling flags) letter
    ∙ ⊎_elim
    (λ yes. ap (λ t. t && list_any (λ b. eqb b letter) (spelling flags)) yes
    ∙ any_dash letter (filter (has_letter flags) letters) yes ∙ any_kept (has_letter flags) letter letters
    ∙ ap (λ t. has_letter flags letter && t) (any_letter letter yes) ∙ and-true (has_letter flags letter))
    (λ none. ap (λ t. t && list_any (λ b. eqb b letter) (spelling flags)) none ∙ sym (has_letter-no flags letter none))
    (cases_Bool (is_ascii_alphabetic letter))

-- the text of a set is read as that set
pub set_of-spelling : (flags : ℕ) → flags < 2 ^ 52 → set_of (spelling flags) ≡ flags
set_of-spelling flags small =
    same_from_letters (set_of (spelling flags)) flags (set_of-lt 0 (spelling flags) (omega arith)) small (has_letter-spelling flags)
