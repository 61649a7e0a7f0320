use Rattle.std.proofs.Common.{◌<◌, ◌∙◌, ap, get_or, length, subst, arith}
use Rattle.indexmap.specs.IndexMap.{index_map_len}
use Rattle.chanstate.specs.Seats.{IsIndexedNext}
use Rattle.chanstate.proofs.SeatLemmas.{counted-next, made-next}
use Rattle.chanstate.proofs.room.index_taken.Goals as goal

pub loop-place-preserved : goal.loop-place-preserved
loop-place-preserved c =
    let mapping = c.args.seats.now.mapping in
    let so_far = c.loop-place.invariant in
    let ps = c.args.seats.now.places.items in
    let all = c.args.seats.now.index.entries in
    let i = c.loop-place.place-index in
    let d = c.place-item.result in
    let n = index_map_len c.loop-place.index in
    let k = index_map_len c.index_next.new.index in
    let es = c.loop-place.index.entries in
    let fs = c.index_next.new.index.entries in
    let less : i < length ps = omega arith in
    let next = subst (λ p. IsIndexedNext mapping p n es k fs)
    (c.place-item.is ∙ ap (λ xs. get_or xs i d) c.as_slice-place-items.ensures.value) c.in_ok-index_next.ensures in
    record {
      counted = counted-next mapping ps i d es fs n k less so_far.counted next;
      all = λ used. let made = so_far.all used in made-next mapping ps all i d es fs n k (c.requires used) less made.0 made.1 next;
    }
