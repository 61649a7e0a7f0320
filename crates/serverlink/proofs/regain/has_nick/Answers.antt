use Rattle.std.proofs.Common.{◌∙◌, List, ℕ, Bool, [], ◌∷◌, ap, sym, map, eqb, rules, tests}
use Rattle.std.specs.List.{list_any}
use Rattle.std.proofs.lemmas.List.{map-append}
use Rattle.std.proofs.lemmas.List.Folds.{list_any_at}
use Rattle.std.proofs.lemmas.Iterator.Consumers.{YieldsList-at, YieldsList-turn, YieldsList-end}
use Rattle.std.proofs.lemmas.Iterator.Splits.{YieldsList-from_slice_split}
use Rattle.bytetext.proofs.Lists.{list_any-push}
use Rattle.rfccase.specs.Casemapping.{is_same_by}
use Rattle.serverlink.proofs.regain.has_nick.Goals as goal

pub loop-piece-preserved : goal.loop-piece-preserved
loop-piece-preserved c =
    let at = c.loop-piece in
    let is : List ℕ → Bool = λ piece. is_same_by c.args.mapping piece c.args.nick.now in
    ap (list_any is) (map-append (λ x. x.now) at.yielded (c.in-Some.piece ∷ []))
    ∙ list_any-push is (map (λ x. x.now) at.yielded) c.in-Some.piece.now at.invariant (sym c.is_the_nick.ensures ∙ c.if-is_the_nick.false)

pub returns-then-is_the_nick : goal.returns-then-is_the_nick
returns-then-is_the_nick c =
    let is : List ℕ → Bool = λ piece. is_same_by c.args.mapping piece c.args.nick.now in
    let at = YieldsList-turn (YieldsList-at c.into_iter-piece-iterator.ensures.into_iter_gives
    (YieldsList-from_slice_split _ (λ b. eqb b 44) c.args.list.now c.split-piece-items.ensures.rest c.split-piece-items.ensures.done
    c.split-piece-items.ensures.closure (λ x r q k. search (rules, tests)))) c.loop-piece.yielded _ c.loop-piece.yielded_by _ _ c.in-Some.piece c.in-Some.is
    c.next.ensures.steps in
    sym (list_any_at is _ _ c.in-Some.piece.now at.0 (ap is (sym at.1) ∙ (sym c.is_the_nick.ensures ∙ c.if-is_the_nick.true)))

pub returns : goal.returns
returns c =
    let is : List ℕ → Bool = λ piece. is_same_by c.args.mapping piece c.args.nick.now in
    let all = YieldsList-end (YieldsList-at c.into_iter-piece-iterator.ensures.into_iter_gives
    (YieldsList-from_slice_split _ (λ b. eqb b 44) c.args.list.now c.split-piece-items.ensures.rest c.split-piece-items.ensures.done
    c.split-piece-items.ensures.closure (λ x r q k. search (rules, tests)))) c.loop-piece.yielded _ c.loop-piece.yielded_by _ _ c.in-None.is
    c.next.ensures.steps in
    sym (ap (list_any is) (sym all.0) ∙ c.loop-piece.invariant)
