use Rattle.std.proofs.Common.{◌≡◌, ◌↔◌, ◌-◌, ◌≤◌, true, ℕ, List, length, take, drop, get_or, subst, sym, ap, ◌∙◌, arith, length-drop}
use Rattle.std.proofs.lemmas.Bool.{both_ways}
use Rattle.std.proofs.lemmas.List.{take_rest}
use Rattle.rfccase.specs.Casemapping.{low_by}
use Rattle.wildmask.specs.Codes.{items_in}
use Rattle.wildmask.specs.Matching.{Matches}
use Rattle.wildmask.specs.Walks.{AllLower, takes_byte}
use Rattle.wildmask.proofs.RunLemmas.{first_byte}
use Rattle.wildmask.proofs.runs.after_first_run.Goals as goal

pub returns-then-not-takes-clause-matches : goal.returns-then-not-takes-clause-matches
returns-then-not-takes-clause-matches c = λ m.
    let at = (first_byte c.args.mapping (items_in c.loop-item.left.now) (items_in c.in-Some.others.now) c.in-Some.item c.loop-item.rest.now
    c.in-len1-up.len_at_least c.in-Some.ensures.item.0 c.in-Some.ensures.item.1 c.loop-item.invariant.lower).0 (c.loop-item.invariant.matches.0 m) in
    both_ways _ c.if-not-takes.true (c.takes.ensures.value ∙ ap (takes_byte c.in-Some.item) c.fold_by.ensures ∙ at.0)

pub loop-item-preserved : goal.loop-item-preserved
loop-item-preserved c =
    let next : take (length c.loop-item.rest.now - 1) (drop 1 c.loop-item.rest.now) ≡ drop 1 c.loop-item.rest.now = take_rest c.loop-item.rest.now 1 in
    let at = first_byte c.args.mapping (items_in c.loop-item.left.now) (items_in c.in-Some.others.now) c.in-Some.item c.loop-item.rest.now
    c.in-len1-up.len_at_least c.in-Some.ensures.item.0 c.in-Some.ensures.item.1 c.loop-item.invariant.lower in
    let taken : takes_byte c.in-Some.item (low_by c.args.mapping (get_or c.loop-item.rest.now 0 0)) ≡ true =
    sym (c.takes.ensures.value ∙ ap (takes_byte c.in-Some.item) c.fold_by.ensures) ∙ c.if-not-takes.false in
    record {
      matches = subst (λ (xs : List ℕ). Matches c.args.mapping (items_in c.args.codes.now) c.args.text.now
          ↔ Matches c.args.mapping (items_in c.in-Some.others.now) xs) (sym next)
          (λ m. (at.0 (c.loop-item.invariant.matches.0 m)).1, λ m. c.loop-item.invariant.matches.1 (at.1 (taken, m)));
      lower = (subst (AllLower c.args.mapping) c.in-Some.ensures.item.0 c.loop-item.invariant.lower).1;
      fewer = omega (arith, c.in-Some.ensures.shorter, c.loop-item.invariant.fewer);
      shorter = subst (λ (xs : List ℕ). length xs ≤ length c.args.text.now) (sym next)
          (omega (arith, length-drop 1 c.loop-item.rest.now, c.loop-item.invariant.shorter));
      counted = omega (arith, c.in-Some.ensures.shorter, c.loop-item.invariant.counted, c.takes.ensures.counted);
    }
