-- The line of the file `parent` is read as it was written.
use Rattle.std.proofs.Common.{◌≡◌, ◌∙◌, ◌==◌, ℕ, suc, ◌+◌, ◌-◌, ◌<◌, ◌^◌, Bool, true, false, not, ◌&&◌, if◌then◌else◌}
use Rattle.std.proofs.Common.{List, [], ◌∷◌, ◌++◌, length, take, decimal, Option, Some, None, refl, sym, ap, subst, arith, append_assoc, length-append}
use Rattle.std.specs.Prelude.{is_some, slice_index}
use Rattle.std.specs.Str.{bytes_eq}
use Rattle.std.proofs.Math.Seq.{take-append_seam}
use Rattle.std.proofs.lemmas.Bool.{and_parts}
use Rattle.std.proofs.lemmas.Bool.Decides.{Decides-eqb, nat_tests}
use Rattle.std.proofs.lemmas.Fmt.{decimal_nonempty}
use Rattle.std.proofs.lemmas.Slice.Eq.{bytes_eq-Decides}
use Rattle.handshake.specs.Digits.{are_digits, digits_in}
use Rattle.handshake.specs.Numbers.{as_written, wide_from, wide_in}
use Rattle.handshake.specs.Parents.{IsParentLine, ends_line, parent_in, parent_line, parent_named}
use Rattle.handshake.specs.Reading.{word_of, rest_of}
use Rattle.handshake.proofs.WordLemmas.{are_digits-all, digits-letters, digits_in-some, rest_of-word, wide_in-decimal, word_of-word, words_split}

-- ---- a line feed at the end

seam_index : (front : List ℕ) → slice_index (front ++ 10 ∷ []) (length front) ≡ 10
seam_index [] = refl
seam_index (x ∷ front) = seam_index front

last_split : (bytes : List ℕ) → 0 < length bytes → bytes ≡ take (length bytes - 1) bytes ++ slice_index bytes (length bytes - 1) ∷ []
last_split [] some = absurd (omega (arith, some))
last_split (x ∷ []) some = refl
last_split (x ∷ y ∷ bytes) some =
    let len : length (x ∷ y ∷ bytes) - 1 ≡ suc (length (y ∷ bytes) - 1) = omega arith in
    rw len (ap (λ zs. x ∷ zs) (last_split (y ∷ bytes) (omega arith)))

line_split : (bytes : List ℕ) → ends_line bytes ≡ true → bytes ≡ take (length bytes - 1) bytes ++ 10 ∷ []
line_split bytes ends =
    let both = and_parts (not (length bytes == 0)) (slice_index bytes (length bytes - 1) == 10) ends in
    let some : 0 < length bytes = grind (arith, nat_tests, both.0) in
    last_split bytes some
    ∙ ap (λ b. take (length bytes - 1) bytes ++ b ∷ []) ((Decides-eqb (slice_index bytes (length bytes - 1)) 10).0 both.1)

ended : (front : List ℕ) → parent_in (front ++ 10 ∷ []) ≡ parent_named front
ended front =
    let long : length (front ++ 10 ∷ []) ≡ length front + 1 = length-append front (10 ∷ []) in
    let len : length (front ++ 10 ∷ []) - 1 ≡ length front = omega (arith, long) in
    let some : not (length (front ++ 10 ∷ []) == 0) ≡ true = grind (arith, nat_tests, long) in
    let last : (slice_index (front ++ 10 ∷ []) (length (front ++ 10 ∷ []) - 1) == 10) ≡ true =
    ap (λ n. slice_index (front ++ 10 ∷ []) n == 10) len ∙ ap (λ b. b == 10) (seam_index front) in
    let ends : ends_line (front ++ 10 ∷ []) ≡ true = ap (λ b. b && slice_index (front ++ 10 ∷ []) (length (front ++ 10 ∷ []) - 1) == 10) some ∙ last in
    ap (λ (b : Bool). if b then parent_named (take (length (front ++ 10 ∷ []) - 1) (front ++ 10 ∷ [])) else None) ends
    ∙ ap (λ n. parent_named (take n (front ++ 10 ∷ []))) len
    ∙ ap parent_named (take-append_seam front (10 ∷ []))

-- ---- a number and a version

written : (word : List ℕ) (value : Option ℕ) (n : ℕ) → as_written word value ≡ Some n → decimal n ≡ word
written word None n is = cc
written word (Some value) n is = by (bytes_eq (decimal value) word) refl is
  where
    by : (b : Bool) → bytes_eq (decimal value) word ≡ b → (if b then Some value else None) ≡ Some n → decimal n ≡ word
    by true same some = let e : value ≡ n = cc in subst (λ m. decimal m ≡ word) e ((bytes_eq-Decides (decimal value) word).0 same)
    by false same some = cc

-- no number is written as nothing
not_nothing : (word : List ℕ) (n : ℕ) → wide_in word ≡ Some n → 0 < length word
not_nothing [] n is = by (bytes_eq (decimal 0) []) refl is
  where
    by : (b : Bool) → bytes_eq (decimal 0) [] ≡ b → (if b then Some 0 else None) ≡ Some n → 0 < 0
    by true same some =
        let none : decimal 0 ≡ [] = (bytes_eq-Decides (decimal 0) []).0 same in
        omega (arith, decimal_nonempty 0 (omega arith), ap length none)
    by false same some = cc
not_nothing (b ∷ bs) n is = omega arith

-- the words of a line that is read
record IsNamed (front net : List ℕ) : Type 0 where
  version : ℕ
  is : front ≡ net ++ 32 ∷ decimal version

named_some : (front net : List ℕ) → parent_named front ≡ Some net → IsNamed front net
named_some front net is = by (wide_in (rest_of front)) refl is
  where
    by : (version : Option ℕ) → wide_in (rest_of front) ≡ version → (if is_some version then digits_in 16 (word_of front) else None) ≡ Some net
        → IsNamed front net
    by None says some = cc
    by (Some n) says some = record {
      version = n;
      is = words_split front (not_nothing (rest_of front) n says)
          ∙ ap (λ w. w ++ 32 ∷ rest_of front) (digits_in-some 16 (word_of front) net some).0
          ∙ ap (λ r. net ++ 32 ∷ r) (sym (written (rest_of front) (wide_from 0 (rest_of front)) n says));
    }

-- ---- a whole line

-- what is read was written
pub parent_in-some : (bytes net : List ℕ) → parent_in bytes ≡ Some net → IsParentLine net bytes
parent_in-some bytes net is = by (ends_line bytes) refl is
  where
    by : (b : Bool) → ends_line bytes ≡ b → (if b then parent_named (take (length bytes - 1) bytes) else None) ≡ Some net
        → IsParentLine net bytes
    by true ends some =
        let named = named_some (take (length bytes - 1) bytes) net some in
        record {
          version = named.version;
          is = line_split bytes ends ∙ ap (λ f. f ++ 10 ∷ []) named.is ∙ append_assoc net (32 ∷ decimal named.version) (10 ∷ []);
        }
    by false ends some = cc

-- what is written is read
pub parent_in-line : (net : List ℕ) (version : ℕ) → digits_in 16 net ≡ Some net → version < 4294967296
    → parent_in (parent_line net version) ≡ Some net
parent_in-line net version has fits =
    let are = (digits_in-some 16 net net has).1 in
    let letters = digits-letters net (are_digits-all 16 net are) in
    ap parent_in (sym (append_assoc net (32 ∷ decimal version) (10 ∷ [])))
    ∙ ended (net ++ 32 ∷ decimal version)
    ∙ ap (λ r. if is_some (wide_in r) then digits_in 16 (word_of (net ++ 32 ∷ decimal version)) else None) (rest_of-word net (decimal version) letters)
    ∙ ap (λ (v : Option ℕ). if is_some v then digits_in 16 (word_of (net ++ 32 ∷ decimal version)) else None) (wide_in-decimal version fits)
    ∙ ap (digits_in 16) (word_of-word net (decimal version) letters) ∙ has
