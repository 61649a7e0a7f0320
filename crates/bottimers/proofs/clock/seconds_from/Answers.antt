use Rattle.std.proofs.Common.{◌≡◌, ◌∙◌, ◌+◌, ◌-◌, ◌∷◌, [], ◌++◌, ap, sym, length, arith}
use Rattle.std.specs.List.{range_with_len}
use Rattle.std.proofs.lemmas.List.FromFn.{length-range_with_len}
use Rattle.bottimers.proofs.Seconds.{range_more}
use Rattle.bottimers.proofs.clock.seconds_from.Goals as goal

pub push_reserved-requires : goal.push_reserved-requires
push_reserved-requires c =
    let held = ap length c.loop-second.invariant.items ∙ length-range_with_len c.args.first (c.loop-second.second - c.args.first) in
    omega (arith, held, c.loop-second.invariant.room, c.loop-second.seconds.ok)

pub loop-second-preserved : goal.loop-second-preserved
loop-second-preserved c =
    let first = c.args.first in
    let second = c.loop-second.second in
    let count : second - first + 1 ≡ second + 1 - first = omega (arith, c.loop-second.auto.second) in
    let next : first + (second - first) ≡ second = omega (arith, c.loop-second.auto.second) in
    record {
      items =
          c.push_reserved.ensures.items
          ∙ ap (λ seconds. seconds ++ second ∷ []) c.loop-second.invariant.items
          ∙ sym (range_more first (second - first) second next)
          ∙ ap (range_with_len first) count;
      room = omega (arith, c.loop-second.invariant.room, c.push_reserved.ensures.capacity);
    }
