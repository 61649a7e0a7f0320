-- An HMAC has 32 bytes, and a code 64 digits.
use Rattle.std.proofs.Common.{◌≡◌, ◌&&◌, ℕ, zero, suc, ◌*◌, ◌/◌, ◌%◌, ◌<◌, true, List, [], ◌∷◌, ◌++◌, length, refl, ap, ◌∙◌, arith}
use Rattle.std.proofs.Common.{length-append}
use Rattle.std.specs.Prelude.{slice_index}
use Rattle.std.specs.Int.{w32, to_be_bytes}
use Rattle.std.specs.List.{list_all}
use Rattle.std.proofs.lemmas.Bool.Decides.{Decides-eqb}
use Rattle.hex.specs.Hex.{encode_lower, encode_with, lower_digits, IsBytes}
use Rattle.hex.proofs.HexLemmas.{length-encode_with}
use Rattle.sha2.specs.Sha256.{digest_bytes, final_hash, initial_hash_256, sha256}
use Rattle.sealing.specs.Hmac.{hmac_of, xored}
use Rattle.handshake.specs.Digits.{is_digit, are_digits}
use Rattle.handshake.specs.Lines.{code_of}
use Rattle.std.proofs.lemmas.Bool.{and_parts}

-- ---- a digest

IsBytes-append : (xs ys : List ℕ) → IsBytes xs → IsBytes ys → IsBytes (xs ++ ys)
IsBytes-append [] ys first second i = second i
IsBytes-append (x ∷ xs) ys first second zero = first zero
IsBytes-append (x ∷ xs) ys first second (suc i) = IsBytes-append xs ys (λ k. first (suc k)) second i

IsBytes-word : (n : ℕ) → IsBytes (to_be_bytes w32 n)
IsBytes-word n zero = omega arith
IsBytes-word n (suc zero) = omega arith
IsBytes-word n (suc (suc zero)) = omega arith
IsBytes-word n (suc (suc (suc zero))) = omega arith
IsBytes-word n (suc (suc (suc (suc i)))) = omega arith

digest : (h : List ℕ) (n : ℕ) → (length (digest_bytes h n) ≡ 4 * n) × IsBytes (digest_bytes h n)
unfolding digest_bytes
digest h zero = (refl, λ i. omega arith)
digest h (suc n) =
    let front = digest h n in (
      omega (arith, front.0, length-append (digest_bytes h n) (to_be_bytes w32 (slice_index h n))),
      IsBytes-append (digest_bytes h n) (to_be_bytes w32 (slice_index h n)) front.1 (IsBytes-word (slice_index h n)),
    )

pub hmac-bytes : (key text : List ℕ) → (length (hmac_of key text) ≡ 32) × IsBytes (hmac_of key text)
unfolding hmac_of sha256
hmac-bytes key text = digest (final_hash initial_hash_256 (xored 0x5c key ++ sha256 (xored 0x36 key ++ text))) 8

-- ---- digits that were made of bytes

digit_at : (n : ℕ) → n < 16 → is_digit (slice_index lower_digits n) ≡ true
digit_at n small = at lower_digits n refl small
  where
    at : (xs : List ℕ) (i : ℕ) → list_all is_digit xs ≡ true → i < length xs → is_digit (slice_index xs i) ≡ true
    at [] i all within = absurd (omega arith)
    at (x ∷ xs) zero all within = (and_parts (is_digit x) (list_all is_digit xs) all).0
    at (x ∷ xs) (suc i) all within = at xs i (and_parts (is_digit x) (list_all is_digit xs) all).1 (omega arith)

encode_lower-digits : (xs : List ℕ) → IsBytes xs → list_all is_digit (encode_lower xs) ≡ true
unfolding encode_with
encode_lower-digits [] bytes = refl
encode_lower-digits (x ∷ xs) bytes =
    let fits : x < 256 = bytes 0 in
    let high = digit_at (x / 16) (omega arith) in
    let low = digit_at (x % 16) (omega arith) in
    ap (λ b. b && (is_digit (slice_index lower_digits (x % 16)) && list_all is_digit (encode_lower xs))) high
    ∙ ap (λ b. b && list_all is_digit (encode_lower xs)) low ∙ encode_lower-digits xs (λ i. bytes (suc i))

pub are_digits-encode_lower : (xs : List ℕ) → length xs ≡ 32 → IsBytes xs → are_digits 64 (encode_lower xs) ≡ true
are_digits-encode_lower xs long bytes =
    ap (λ b. b && list_all is_digit (encode_lower xs)) ((Decides-eqb (length (encode_lower xs)) 64).1 (omega (arith, long, length-encode_with lower_digits xs)))
    ∙ encode_lower-digits xs bytes

-- a code is 64 digits
pub are_digits-code : (key text : List ℕ) → are_digits 64 (code_of key text) ≡ true
are_digits-code key text = let mac = hmac-bytes key text in are_digits-encode_lower (hmac_of key text) mac.0 mac.1
