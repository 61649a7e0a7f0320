use Rattle.std.proofs.Common.{◌≡◌, ◌≤◌, ℕ, length, replicate, ap, arith}
use Rattle.std.proofs.lemmas.List.{length-map, length-take-le}
use Rattle.rfccase.specs.Casemapping.{low}
use Rattle.wildmask.proofs.TailLemmas.{padded_is}
use Rattle.wildmask.proofs.tails.Tail.of_end.Goals as goal

pub invariant_of-result : goal.invariant_of-result
invariant_of-result c =
    let small : c.min-len.result ≤ 16 = omega (arith, c.min.ensures, c.min-len.ensures) in
    let long : length c.fold_slice.new.text ≡ c.min-len.result =
    omega (
      arith,
      ap length c.fold_slice.ensures,
      length-map c.copy_from_slice.new.self low,
      c.copy_from_slice.ensures.len,
      length-take-le
          {A = ℕ} c.min-len.result (replicate 16 0) small,
    ) in
    padded_is c.fold_slice.new.text c.min-len.result long small
