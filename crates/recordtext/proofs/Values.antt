-- Digits read from the left.
use Rattle.std.proofs.Common.{◌≡◌, ℕ, zero, suc, lit≤, ◌+◌, ◌-◌, ◌*◌, ◌^◌, ◌<◌, ◌≤◌, List, ◌∷◌, length, drop, get_or, ap, ◌∙◌, arith, None, Some, cond}
use Rattle.std.proofs.Math.Nat.{pow-suc, mul-le-mul_left}
use Rattle.std.proofs.lemmas.List.{drop_more}
use Rattle.std.proofs.lemmas.Bool.{le-ltb, lt-ltb}
use Rattle.recordtext.specs.Words.{below, value_of}

-- what the digits so far, and those that are left, mean together
abbrev pub together : ℕ → List ℕ → ℕ
together value rest = value * 10 ^ length rest + value_of rest

regroup : (value digit p q rest : ℕ) → q ≡ p * 10 → value * q + (digit * p + rest) ≡ (value * 10 + digit) * p + rest
regroup value digit p q rest e = rw e (omega arith)

-- one more digit is taken
pub together-cons : (value d : ℕ) (rest : List ℕ) → together value (d ∷ rest) ≡ together (value * 10 + (d - 48)) rest
together-cons value d rest = regroup value (d - 48) (10 ^ length rest) (10 ^ length (d ∷ rest)) (value_of rest) (pow-suc 10 (length rest))

pub together-more : (value i : ℕ) (word : List ℕ) → i < length word
    → together value (drop i word) ≡ together (value * 10 + (get_or word i 0 - 48)) (drop (i + 1) word)
together-more value i word within = ap (together value) (drop_more word i 0 within) ∙ together-cons value (get_or word i 0) (drop (i + 1) word)

-- what is left only adds
pow_positive : (n : ℕ) → 1 ≤ 10 ^ n
pow_positive zero = lit≤ tt
pow_positive (suc n) = let h = pow_positive n in rw (pow-suc 10 n) (omega arith)

pub together-le : (value : ℕ) (rest : List ℕ) → value ≤ together value rest
together-le value rest = omega (arith, mul-le-mul_left value (pow_positive (length rest)))

-- a number from the bound on is none below it
pub below-none : (bound n : ℕ) → bound ≤ n → below bound n ≡ None
below-none bound n h = ap (λ b. cond b (Some n) None) (le-ltb n bound h)

pub below-some : (bound n : ℕ) → n < bound → below bound n ≡ Some n
below-some bound n h = ap (λ b. cond b (Some n) None) (lt-ltb n bound h)

-- so too large a number stays so
pub below-together : (bound value : ℕ) (rest : List ℕ) (n : ℕ) → together value rest ≡ n → bound ≤ value → below bound n ≡ None
below-together bound value rest n e h = below-none bound n (omega (arith, together-le value rest))
