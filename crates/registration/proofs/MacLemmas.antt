-- Strings that are combined octet by octet, and the iterations of PBKDF2.
use Rattle.std.proofs.Common.{◌≡◌, ℕ, zero, suc, ◌+◌, ◌<◌, List, [], ◌∷◌, ◌++◌, length, take, drop, map, get_or, set, refl, ap, ◌∙◌, arith}
use Rattle.std.proofs.Common.{length-append, length-take-le, length-drop}
use Rattle.std.proofs.lemmas.List.{length-map, get_or_default}
use Rattle.std.proofs.lemmas.List.Edits.{map_over_more}
use Rattle.std.specs.Prelude.{bit_xor}
use Rattle.registration.specs.declared.mac_key.MacKey.{MacKey}
use Rattle.registration.specs.Macs.{combined, mac_of}
use Rattle.registration.specs.Pbkdf2.{sum_after, u_after}

-- one byte more is combined with the same byte
pub xored_more : (byte : ℕ) (xs ys : List ℕ) (i : ℕ) → i < length xs
    → ys ≡ map (λ b. bit_xor b byte) (take i xs) ++ drop i xs
    → set ys i (bit_xor (get_or ys i 0) byte) ≡ map (λ b. bit_xor b byte) (take (i + 1) xs) ++ drop (i + 1) xs
xored_more byte xs ys i within so_far =
    let front : length (map (λ b. bit_xor b byte) (take i xs)) ≡ i =
    length-map (take i xs) (λ b. bit_xor b byte) ∙ length-take-le i xs (omega arith) in
    let same : i < length ys =
    omega (arith, ap length so_far, length-append (map (λ b. bit_xor b byte) (take i xs)) (drop i xs), length-drop i xs) in
    map_over_more (λ b. bit_xor b byte) xs ys i (get_or ys i 0) within so_far (get_or_default ys i 0 (get_or ys i 0) same)

-- one octet more of two strings is combined
pub combined_more : (xs ys : List ℕ) (i : ℕ) → i < length xs → i < length ys
    → combined (take (suc i) xs) (take (suc i) ys) ≡ combined (take i xs) (take i ys) ++ bit_xor (get_or xs i 0) (get_or ys i 0) ∷ []
combined_more [] ys i within other = absurd (omega arith)
combined_more (x ∷ xs) [] i within other = absurd (omega arith)
combined_more (x ∷ xs) (y ∷ ys) zero within other = refl
combined_more (x ∷ xs) (y ∷ ys) (suc i) within other =
    ap (λ l. bit_xor x y ∷ l) (combined_more xs ys i (omega arith) (omega arith))

pub u_after-more : (key : MacKey) (u : List ℕ) (m n : ℕ) → u_after key (u_after key u m) n ≡ u_after key u (m + n)
unfolding u_after
u_after-more key u m zero = ap (u_after key u) {x = m} {y = m + 0} (omega arith)
u_after-more key u m (suc n) =
    ap (mac_of key) (u_after-more key u m n) ∙ ap (u_after key u) {x = suc (m + n)} {y = m + suc n} (omega arith)

pub sum_after-more : (key : MacKey) (sum u : List ℕ) (m n : ℕ)
    → sum_after key (sum_after key sum u m) (u_after key u m) n ≡ sum_after key sum u (m + n)
unfolding u_after sum_after
sum_after-more key sum u m zero = ap (sum_after key sum u) {x = m} {y = m + 0} (omega arith)
sum_after-more key sum u m (suc n) =
    ap (λ s. combined s (u_after key (u_after key u m) (suc n))) (sum_after-more key sum u m n)
    ∙ ap (combined (sum_after key sum u (m + n))) (u_after-more key u m (suc n))
    ∙ ap (λ k. combined (sum_after key sum u (m + n)) (u_after key u k)) {x = m + suc n} {y = suc (m + n)} (omega arith)
    ∙ ap (sum_after key sum u) {x = suc (m + n)} {y = m + suc n} (omega arith)
