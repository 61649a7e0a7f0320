use Rattle.std.proofs.Common.{◌<◌, ◌+◌, ℕ, length, get_or, subst, sym, arith}
use Rattle.std.proofs.lemmas.List.{length-map}
use Rattle.rfccase.specs.Casemapping.{low_by}
use Rattle.wildmask.specs.declared.items.Item.{Item}
use Rattle.wildmask.specs.Codes.{decoded, items_in}
use Rattle.wildmask.proofs.WalkLemmas.{Moved, Moves, NoneBetween, moves_one, moves_all, stars_cover, item_at}
use Rattle.std.proofs.Common.{drop}
use Rattle.wildmask.proofs.walks.step.Goals as goal

pub loop-at-preserved : goal.loop-at-preserved
loop-at-preserved c =
    let inside : c.in-Some.at < length c.args.codes.now = c.in-Some.ensures.1 in
    let within : c.in-Some.at < length (items_in c.args.codes.now) = omega (arith, length-map c.args.codes.now decoded) in
    let moves : Moves c.args.mapping (items_in c.args.codes.now) (decoded (get_or c.args.codes.now c.in-Some.at 0)) (low_by c.args.mapping c.args.byte)
    (drop (c.in-Some.at + 1) (items_in c.args.codes.now)) c.loop-at.after.bits c.moved-after.result.bits
    = subst (λ (l : ℕ). Moves c.args.mapping (items_in c.args.codes.now) (decoded (get_or c.args.codes.now c.in-Some.at 0)) l
    (drop (c.in-Some.at + 1) (items_in c.args.codes.now)) c.loop-at.after.bits c.moved-after.result.bits) c.fold_by-lower.ensures
    c.moved-after.ensures.moved in
    let moved : Moved c.args.mapping (items_in c.args.codes.now) (low_by c.args.mapping c.args.byte) c.in-Some.at c.loop-at.after.bits c.moved-after.result.bits
    = subst (λ (i : Item). Moves c.args.mapping (items_in c.args.codes.now) i (low_by c.args.mapping c.args.byte)
    (drop (c.in-Some.at + 1) (items_in c.args.codes.now)) c.loop-at.after.bits c.moved-after.result.bits)
    (sym (item_at c.args.codes.now c.in-Some.at inside)) moves in
    record {
      within = omega arith;
      counted = omega (arith, c.moved-after.ensures.counted, c.loop-at.invariant.counted, c.in-Some.ensures.0);
      closed = c.moved-after.ensures.closed;
      cover = stars_cover c.args.mapping (items_in c.args.codes.now) c.loop-at.from c.in-Some.at
          (low_by c.args.mapping c.args.byte) c.loop-at.after.bits _ c.in-Some.ensures.0 within moved c.loop-at.invariant.cover;
      same = λ text. moves_one c.args.mapping (items_in c.args.codes.now) c.args.places.bits c.loop-at.from c.in-Some.at c.args.byte c.loop-at.after.bits _ text
          c.requires.lower c.requires.closed c.in-Some.ensures.0 within c.in-Some.ensures.2 c.in-Some.ensures.3 moved (c.loop-at.invariant.same text);
    }

pub returns-clause-moved : goal.returns-clause-moved
returns-clause-moved c =
    let none : NoneBetween c.args.places.bits c.loop-at.from (length (items_in c.args.codes.now)) =
    λ q late early. c.in_default.ensures q late (omega (arith, length-map c.args.codes.now decoded)) in
    λ text. moves_all c.args.mapping (items_in c.args.codes.now) c.args.places.bits c.loop-at.from c.args.byte c.loop-at.after.bits text none (c.loop-at.invariant.same text)
