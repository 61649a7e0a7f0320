-- The line of a leaf's key is read again.
use Rattle.std.proofs.Common.{◌≡◌, ℕ, ◌+◌, ◌-◌, ◌<◌, Bool, true, false, ◌&&◌, if◌then◌else◌}
use Rattle.std.proofs.Common.{List, [], ◌∷◌, ◌++◌, length, take, drop, codes, decimal, Some, None, Ok, refl, sym, ap, ◌∙◌, arith}
use Rattle.std.proofs.Common.{append_assoc, length-append, take-append-drop, true≢false}
use Rattle.std.specs.List.{list_all}
use Rattle.std.specs.Str.{bytes_eq}
use Rattle.std.proofs.Math.Seq.{take-append_seam, drop-append-add}
use Rattle.std.proofs.lemmas.Bool.{and_parts}
use Rattle.std.proofs.lemmas.Bool.Decides.{Decides-eqb}
use Rattle.std.proofs.lemmas.List.Folds.{list_all-append}
use Rattle.std.proofs.lemmas.Slice.Eq.{bytes_eq-Decides}
use Rattle.hex.specs.Hex.{encode_lower, IsBytes, decode_sized}
use Rattle.hex.proofs.HexLemmas.{decode_sized-encode_lower}
use Rattle.sealing.specs.Hmac.{block_of}
use Rattle.handshake.specs.declared.secret.Secret.TheVariants.{Leaf}
use Rattle.handshake.specs.Digits.{is_digit, are_digits}
use Rattle.handshake.specs.Lines.{line_feed}
use Rattle.handshake.specs.Numbers.{leaf_in}
use Rattle.handshake.specs.Reading.{rest_of}
use Rattle.handshake.specs.Secrets.{decoded, leaf_secret, leaf_secret_in, line_to, raw_key_in, secret_in, secret_in_line, secret_line, without_cr}
use Rattle.handshake.proofs.HashLemmas.{are_digits-encode_lower}
use Rattle.handshake.proofs.WordLemmas.{are_digits-all, is_inside, decimal-digits, digits-inside, digits-letters, leaf_in-decimal, line_end, rest_of-word, word_of-word}

-- ---- digits that were made of bytes

pub key_reads : (xs : List ℕ) → length xs ≡ 32 → IsBytes xs → raw_key_in (encode_lower xs) ≡ Some xs
key_reads xs long bytes =
    ap (λ (b : Bool). if b then decoded (decode_sized (encode_lower xs) 32) else None) (are_digits-encode_lower xs long bytes)
    ∙ ap decoded (decode_sized-encode_lower xs 32 long bytes)

-- ---- the line that holds them

raw_key-digits : (word key : List ℕ) → raw_key_in word ≡ Some key → are_digits 64 word ≡ true
raw_key-digits word key has = by (are_digits 64 word) has
  where
    by : (b : Bool) → (if b then decoded (decode_sized word 32) else None) ≡ Some key → b ≡ true
    by true some = refl
    by false some = cc

-- a line that ends in digits ends in no CR
without_cr-digits : (front digits : List ℕ) → list_all is_digit digits ≡ true → 0 < length digits → without_cr (front ++ digits) ≡ front ++ digits
without_cr-digits front digits all some = by (bytes_eq (drop (length (front ++ digits) - 1) (front ++ digits)) (13 ∷ [])) refl
  where
    by : (b : Bool) → bytes_eq (drop (length (front ++ digits) - 1) (front ++ digits)) (13 ∷ []) ≡ b
        → (if b then take (length (front ++ digits) - 1) (front ++ digits) else front ++ digits) ≡ front ++ digits
    by true ends =
        let k : ℕ = length digits - 1 in
        let place : length (front ++ digits) - 1 ≡ length front + k = omega (arith, some, length-append front digits) in
        let last : drop k digits ≡ 13 ∷ [] =
        sym (drop-append-add front digits k) ∙ ap (λ n. drop n (front ++ digits)) (sym place) ∙ (bytes_eq-Decides _ _).0 ends in
        let parts : (list_all is_digit (take k digits) && list_all is_digit (drop k digits)) ≡ true =
        sym (list_all-append is_digit (take k digits) (drop k digits)) ∙ ap (list_all is_digit) (take-append-drop k digits) ∙ all in
        let digit : list_all is_digit (13 ∷ []) ≡ true = ap (list_all is_digit) (sym last) ∙ (and_parts _ _ parts).1 in
        absurd (true≢false (sym digit))
    by false ends = refl

module _ (leaf : ℕ) (digits key : List ℕ) (some : 0 < leaf) (small : leaf < 65536) (has : raw_key_in digits ≡ Some key) where
  abbrev pub front : List ℕ
  front = codes "leaf-key " ++ decimal leaf ++ codes " " ++ digits

  are : are_digits 64 digits ≡ true
  are = raw_key-digits digits key has

  all : list_all is_digit digits ≡ true
  all = are_digits-all 64 digits are

  words : decimal leaf ++ codes " " ++ digits ≡ decimal leaf ++ 32 ∷ digits
  words = append_assoc (decimal leaf) (codes " ") digits

  number : list_all is_digit (decimal leaf) ≡ true
  number = decimal-digits leaf (omega arith)

  inside : list_all is_inside front ≡ true
  inside =
      ap (list_all is_inside) words ∙ list_all-append is_inside (decimal leaf) (32 ∷ digits)
      ∙ ap (λ b. b && list_all is_inside digits) (digits-inside (decimal leaf) number) ∙ digits-inside digits all

  line : secret_line (front ++ line_feed) ≡ front
  line =
      ap (λ end. line_to end (front ++ line_feed)) (line_end front [] inside)
      ∙ ap without_cr (take-append_seam front line_feed)
      ∙ without_cr-digits (codes "leaf-key " ++ decimal leaf ++ codes " ") digits all
      (omega (arith, (Decides-eqb (length digits) 64).0 (and_parts _ _ are).0))

  pub file_reads : secret_in (front ++ line_feed) ≡ Ok (Leaf leaf (block_of key))
  file_reads =
      let letters = digits-letters (decimal leaf) number in
      ap secret_in_line line ∙ ap leaf_secret_in words
      ∙ ap (λ w. leaf_secret (leaf_in w) (raw_key_in (rest_of (decimal leaf ++ 32 ∷ digits)))) (word_of-word (decimal leaf) digits letters)
      ∙ ap (λ r. leaf_secret (leaf_in (decimal leaf)) (raw_key_in r)) (rest_of-word (decimal leaf) digits letters)
      ∙ ap (λ n. leaf_secret n (raw_key_in digits)) (leaf_in-decimal leaf some small) ∙ ap (leaf_secret (Some leaf)) has
