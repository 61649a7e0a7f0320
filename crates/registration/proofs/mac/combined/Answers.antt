use Rattle.std.proofs.Common.{List, ℕ, ◌∷◌, [], ◌++◌, get_or, ap, ◌∙◌, sym, add-one, arith}
use Rattle.std.specs.Prelude.{bit_xor}
use Rattle.registration.proofs.MacLemmas.{combined_more}
use Rattle.registration.proofs.mac.combined.Goals as goal

pub loop-i-preserved : goal.loop-i-preserved
loop-i-preserved c = record {
  few = omega (arith, c.push.ensures.len, c.loop-i.invariant.few);
  so_far =
      let octet = bit_xor (get_or c.args.left.now c.loop-i.i 0) (get_or c.args.right.now c.loop-i.i 0) in
      rw (add-one c.loop-i.i) (c.push.ensures.items ∙ ap (λ (l : List ℕ). l ++ octet ∷ []) c.loop-i.invariant.so_far
      ∙ sym (combined_more c.args.left.now c.args.right.now c.loop-i.i (omega arith) (omega arith)));
}
