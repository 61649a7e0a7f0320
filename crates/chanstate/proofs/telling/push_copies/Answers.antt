use Rattle.std.proofs.Common.{◌∙◌, List, ℕ, [], ◌∷◌, ◌++◌, append_assoc, ap, sym, map, eqb, rules, tests}
use Rattle.std.proofs.lemmas.List.{map-append}
use Rattle.std.proofs.lemmas.Iterator.Consumers.{YieldsList-at, YieldsList-end}
use Rattle.std.proofs.lemmas.Iterator.Splits.{YieldsList-from_slice_split}
use Rattle.chanstate.specs.declared.detail.Detail.{Detail}
use Rattle.chanstate.specs.Seen.{detail_seen}
use Rattle.chanstate.proofs.telling.push_copies.Goals as goal

pub loop-piece-preserved : goal.loop-piece-preserved
loop-piece-preserved c =
    let old = c.args.details.now.items in
    let detail = detail_seen c.args.parts in
    let copy : List ℕ → Detail = λ _. detail in
    let so_far = map (λ x. x.now) c.loop-piece.yielded in
    let next = c.in-Some._piece.now ∷ [] in
    c.in_ok-push_copy.ensures ∙ ap (λ ds. ds ++ detail ∷ []) c.loop-piece.invariant
    ∙ append_assoc old (map copy so_far) (detail ∷ [])
    ∙ ap (λ ds. old ++ ds) (sym (map-append copy so_far next))
    ∙ sym (ap (λ ps. old ++ map copy ps) (map-append (λ x. x.now) c.loop-piece.yielded (c.in-Some._piece ∷ [])))

pub returns : goal.returns
returns c =
    let old = c.args.details.now.items in
    let copy : List ℕ → Detail = λ _. detail_seen c.args.parts in
    let all = YieldsList-end (YieldsList-at c.into_iter-piece-iterator.ensures.into_iter_gives
    (YieldsList-from_slice_split _ (λ b. eqb b 44) c.args.list.now c.split-piece-items.ensures.rest c.split-piece-items.ensures.done
    c.split-piece-items.ensures.closure (λ x r q k. search (rules, tests)))) c.loop-piece.yielded _ c.loop-piece.yielded_by _ _ c.in-None.is
    c.next.ensures.steps in
    c.loop-piece.invariant ∙ ap (λ ps. old ++ map copy ps) all.0
