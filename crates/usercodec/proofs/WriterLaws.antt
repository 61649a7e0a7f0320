-- Where one part of a list finds no room, the whole list finds none.
use Rattle.std.proofs.Common.{◌≡◌, ℕ, ◌≤◌, ◌<◌, ◌+◌, List, ◌++◌, length, take, get_or, length-append, Result, Ok, Err, OnErr, ap, arith}
use Rattle.std.proofs.Common.{Vec, vec_items, vec_len, vec_capacity}
use Rattle.std.specs.List.{flat_map}
use Rattle.std.proofs.lemmas.List.Folds.{length-flat_map-take}

-- `start` is what stands before the parts, as their count
pub no_room : {X Z T E : Type 0} (part : X → List ℕ) (xs : List X) (i : ℕ) (x : X) (start : List ℕ) (out now : Vec ℕ Z) (result : Result T E)
    → i < length xs → x ≡ get_or xs i x → vec_items now ≡ vec_items out ++ (start ++ flat_map part (take i xs)) → vec_capacity out ≤ vec_capacity now
    → vec_capacity now < vec_len now + length (part x) → OnErr result (vec_capacity out < vec_len out + length (start ++ flat_map part xs))
no_room part xs i x start out now (Ok _) within here so_far less none = tt
no_room part xs i x start out now (Err _) within here so_far less none =
    let done = flat_map part (take i xs) in
    let one = ap (λ y. length (part y)) here in
    let before = ap length so_far in
    omega (
      arith,
      length-flat_map-take part xs i x within,
      one,
      before,
      length-append (vec_items out) (start ++ done),
      length-append start done,
      length-append start (flat_map part xs),
      less,
      none,
      out.ok.0,
      now.ok.0,
    )
