use Rattle.std.proofs.Common.{◌≡◌, ◌∷◌, refl, sym, ap, ◌∙◌, arith}
use Rattle.std.specs.Option.{is_some}
use Rattle.wildmask.specs.Items.{items_of, literals_of}
use Rattle.wildmask.specs.Signatures.{either, every}
use Rattle.wildmask.proofs.PatternLemmas.{counted_from, counted_one, counted_none}
use Rattle.wildmask.proofs.SignatureLemmas.{pairs_after, pairs_after-none, items_more, items_end}
use Rattle.wildmask.proofs.needs.needs_of.Goals as goal
use Rattle.wildmask.proofs.needs.needs_of.Goals.{then-is_some, else-is_some}

pub loop-item-init : goal.loop-item-init
loop-item-init c = record {
  room = omega (arith, c.requires);
  literals = refl;
  pairs = pairs_after-none every (items_of c.args.kind c.args.text.now);
}

pub loop-item-preserved : goal.loop-item-preserved
loop-item-preserved c =
    let shorter = c.in-Some.ensures.shorter in
    let first = c.in-Some.ensures.items in
    let room = c.loop-item.invariant.room in
    let left = items_of c.args.kind c.in-Some.others.now in
    let so_far : counted_from c.loop-item.literals (c.in-Some.item ∷ left) ≡ literals_of c.args.kind c.args.text.now =
    ap (counted_from c.loop-item.literals) (sym first) ∙ c.loop-item.invariant.literals in
    record {
      room = elim c.if-is_some.branch [ then-is_some w ↦ omega (arith, w.literals-is, shorter, room) | else-is_some w ↦ omega (arith, w.literals-is, shorter, room) ];
      literals = elim c.if-is_some.branch [
        | then-is_some w ↦ ap (λ n. counted_from n left) w.literals-is
            ∙ counted_one c.loop-item.literals c.in-Some.item left (ap is_some (sym c.lower_literal-lower.ensures) ∙ sym c.is_some.ensures ∙ w.if-is_some.true) ∙ so_far
        | else-is_some w ↦ ap (λ n. counted_from n left) w.literals-is
            ∙ counted_none c.loop-item.literals c.in-Some.item left (ap is_some (sym c.lower_literal-lower.ensures) ∙ sym c.is_some.ensures ∙ w.if-is_some.false) ∙ so_far
      ];
      pairs = rw (c.or-pairs.ensures, c.pair_between.ensures, c.lower_literal-lower.ensures)
          (items_more every c.loop-item.pairs _ c.loop-item.before c.in-Some.item left
          (ap (λ xs. either c.loop-item.pairs (pairs_after every c.loop-item.before xs)) (sym first) ∙ c.loop-item.invariant.pairs));
    }

pub returns-clause-literals : goal.returns-clause-literals
returns-clause-literals c = ap (counted_from c.loop-item.literals) (sym (ap (items_of c.args.kind) c.in_default.ensures.items)) ∙ c.loop-item.invariant.literals

pub returns-clause-pairs : goal.returns-clause-pairs
returns-clause-pairs c = items_end every c.loop-item.pairs _ c.loop-item.before (items_of c.args.kind c.loop-item.rest.now)
    (ap (items_of c.args.kind) c.in_default.ensures.items) c.loop-item.invariant.pairs
