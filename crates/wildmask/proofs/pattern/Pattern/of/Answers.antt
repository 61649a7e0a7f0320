use Rattle.std.proofs.Common.{◌≡◌, [], ap, ◌∙◌, arith, length-set}
use Rattle.wildmask.specs.Items.{items_of}
use Rattle.wildmask.proofs.PatternLemmas.{one_code_more, no_code_more}
use Rattle.wildmask.proofs.pattern.Pattern.of.Goals as goal

pub loop-item-preserved : goal.loop-item-preserved
loop-item-preserved c = record {
  held = length-set _ _ _ ∙ c.loop-item.invariant.held;
  room = omega (arith, c.in-Some.ensures.shorter, c.loop-item.invariant.room);
  all = one_code_more c.args.mapping c.loop-item.codes c.loop-item.len c.code_of.result c.in-Some.item (items_of c.args.kind c.loop-item.rest.now)
      (items_of c.args.kind c.in-Some.others.now) _
      (omega (arith, c.in-Some.ensures.shorter, c.loop-item.invariant.room, c.loop-item.invariant.held)) c.code_of.ensures c.in-Some.ensures.items
      c.loop-item.invariant.all;
}

pub invariant_of-result : goal.invariant_of-result
invariant_of-result c =
    let none : items_of c.args.kind c.loop-item.rest.now ≡ [] = ap (items_of c.args.kind) c.in_default.ensures.items in
    (omega (arith, c.loop-item.invariant.room), c.front_of-front.ensures.value)

pub returns : goal.returns
returns c =
    let none : items_of c.args.kind c.loop-item.rest.now ≡ [] = ap (items_of c.args.kind) c.in_default.ensures.items in
    no_code_more c.args.mapping c.loop-item.codes c.loop-item.len (items_of c.args.kind c.loop-item.rest.now) _ none c.loop-item.invariant.all
