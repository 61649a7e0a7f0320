-- A number is plain.
use Rattle.std.proofs.Common.{ℕ, suc, ◌<◌, ◌≤◌, ◌^◌, List, [], ◌∷◌, length, get_or, decimal, refl, arith}
use Rattle.std.proofs.lemmas.Bool.{le-leb, and_from}
use Rattle.std.proofs.lemmas.Fmt.{decimal_is_IsNumeral}
use Rattle.std.proofs.lemmas.Str.Parse.{digit_at}
use Rattle.recordjson.specs.Words.{ArePlain}

all_plain : (ds : List ℕ) → ((i : ℕ) → i < length ds → (48 ≤ get_or ds i 0) × (get_or ds i 0 ≤ 57)) → ArePlain ds
all_plain [] h = refl
all_plain (d ∷ ds) h =
    let first = h 0 (omega arith) in
    and_from _ _ (and_from _ _ (le-leb 32 d (omega (arith, first.0))) (le-leb d 126 (omega (arith, first.1)))) (all_plain ds (λ i l. h (suc i) (omega arith)))

pub ArePlain-decimal : (n : ℕ) → n < 2 ^ 64 → ArePlain (decimal n)
ArePlain-decimal n h = all_plain _ (λ i l. digit_at _ i (decimal_is_IsNumeral n h).0.1 l)
