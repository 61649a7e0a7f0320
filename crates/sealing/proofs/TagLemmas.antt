-- Tags that are compared byte by byte.
use Rattle.std.proofs.Common.{◌≡◌, ℕ, zero, suc, ◌+◌, ◌<◌, Bool, true, false, List, [], ◌∷◌, length, take, get_or, refl, ap, subst, ◌∙◌}
use Rattle.std.proofs.Common.{arith, add-one, eqb-true}
use Rattle.std.proofs.lemmas.Bool.{eqb-false}
use Rattle.std.specs.Prelude.{◌==◌, ◌&&◌}
use Rattle.std.specs.Str.{bytes_eq}

and_true : (b : Bool) → (b && true) ≡ b
and_true true = refl
and_true false = refl

and-and : (a b c : Bool) → (a && (b && c)) ≡ ((a && b) && c)
and-and true b c = refl
and-and false b c = refl

-- as many bytes and one more are equal where these are, and the one more
bytes_eq-suc : (xs ys : List ℕ) (i : ℕ) → i < length xs → i < length ys
    → bytes_eq (take (suc i) xs) (take (suc i) ys) ≡ (bytes_eq (take i xs) (take i ys) && (get_or xs i 0 == get_or ys i 0))
bytes_eq-suc [] ys i within other = absurd (omega arith)
bytes_eq-suc (x ∷ xs) [] i within other = absurd (omega arith)
bytes_eq-suc (x ∷ xs) (y ∷ ys) zero within other = and_true (x == y)
bytes_eq-suc (x ∷ xs) (y ∷ ys) (suc i) within other =
    ap (λ b. (x == y) && b) (bytes_eq-suc xs ys i (omega arith) (omega arith))
    ∙ and-and (x == y) (bytes_eq (take i xs) (take i ys)) (get_or xs i 0 == get_or ys i 0)

pub one_more_byte : (xs ys : List ℕ) (i : ℕ) → i < length xs → i < length ys
    → bytes_eq (take (i + 1) xs) (take (i + 1) ys) ≡ (bytes_eq (take i xs) (take i ys) && (get_or xs i 0 == get_or ys i 0))
one_more_byte xs ys i within other = rw (add-one i) (bytes_eq-suc xs ys i within other)

-- ---- what the comparison means

pub bytes_eq-equal : (a b : List ℕ) → bytes_eq a b ≡ true → a ≡ b
bytes_eq-equal [] [] same = refl
bytes_eq-equal [] (y ∷ ys) same = cc
bytes_eq-equal (x ∷ xs) [] same = cc
bytes_eq-equal (x ∷ xs) (y ∷ ys) same = by (x == y) refl same (bytes_eq-equal xs ys)
  where
    by : (b : Bool) → (x == y) ≡ b → (b && bytes_eq xs ys) ≡ true → (bytes_eq xs ys ≡ true → xs ≡ ys) → x ∷ xs ≡ y ∷ ys
    by true heads tails rest = ap (λ n. n ∷ xs) (eqb-true x y heads) ∙ ap (λ l. y ∷ l) (rest tails)
    by false heads tails rest = cc

eqb-same : (n : ℕ) → (n == n) ≡ true
eqb-same n = by (n == n) refl
  where
    by : (b : Bool) → (n == n) ≡ b → b ≡ true
    by true e = refl
    by false e = absurd (eqb-false n n e refl)

bytes_eq-same : (a : List ℕ) → bytes_eq a a ≡ true
bytes_eq-same [] = refl
bytes_eq-same (x ∷ xs) = ap (λ b. b && bytes_eq xs xs) (eqb-same x) ∙ bytes_eq-same xs

pub bytes_eq-apart : (a b : List ℕ) → bytes_eq a b ≡ false → a ≡ b → ⊥
bytes_eq-apart a b differ same =
    let is : bytes_eq a b ≡ true = subst (λ (c : List ℕ). bytes_eq a c ≡ true) same (bytes_eq-same a) in cc
