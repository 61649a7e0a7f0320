use Rattle.std.proofs.Common.{◌≡◌, ◌<◌, ◌+◌, true, length, get_or, ap, sym, ◌∙◌, arith, refl, inr}
use Rattle.std.proofs.lemmas.List.{length-map}
use Rattle.wildmask.specs.declared.items.Item.TheVariants.{AnyByte}
use Rattle.wildmask.specs.Codes.{decoded, items_in}
use Rattle.wildmask.specs.Walks.{may_be_empty}
use Rattle.wildmask.proofs.WalkLemmas.{both, skipped, closed_but_next, item_at}
use Rattle.wildmask.proofs.walks.with_skipped.Goals as goal

pub loop-last-preserved : goal.loop-last-preserved
loop-last-preserved c =
    let inside : c.loop-last.last < length c.args.codes.now = c.loop-last-test.true in
    let within : c.loop-last.last < length (items_in c.args.codes.now) = omega (arith, length-map c.args.codes.now decoded) in
    let empty : may_be_empty (get_or (items_in c.args.codes.now) c.loop-last.last AnyByte) ≡ true =
    ap may_be_empty (item_at c.args.codes.now c.loop-last.last inside ∙ sym c.item_of.ensures) ∙ sym c.may_be_empty.ensures ∙ c.if-may_be_empty.true in
    record {
      within = omega arith;
      on = (c.with-places-in-loop-last.ensures (c.loop-last.last + 1)).1 (inr refl);
      closed = closed_but_next (items_in c.args.codes.now) _ c.loop-last.places.bits c.loop-last.last c.with-places-in-loop-last.ensures
          c.loop-last.invariant.closed;
      same = λ mapping text. both (skipped mapping (items_in c.args.codes.now) _ c.loop-last.places.bits c.loop-last.last c.with-places-in-loop-last.ensures within
          c.loop-last.invariant.on empty text) (c.loop-last.invariant.same mapping text);
    }
