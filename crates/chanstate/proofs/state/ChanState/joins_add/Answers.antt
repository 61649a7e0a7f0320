use Rattle.std.proofs.Common.{◌∙◌, List, ℕ, Bool, [], ◌∷◌, ap, sym, map, filter, eqb, rules, tests}
use Rattle.std.specs.List.{list_any}
use Rattle.std.proofs.lemmas.List.{map-append}
use Rattle.std.proofs.lemmas.Iterator.Consumers.{YieldsList-at, YieldsList-turn, YieldsList-end}
use Rattle.std.proofs.lemmas.Iterator.Splits.{YieldsList-from_slice_split}
use Rattle.chanstate.specs.Items.{is_channel_on}
use Rattle.chanstate.specs.Memory.{join_adds}
use Rattle.chanstate.proofs.ComeLemmas.{any-piece}
use Rattle.chanstate.proofs.TellingLemmas.{piece_none, and-parts}
use Rattle.chanstate.proofs.state.ChanState.joins_add.Goals as goal

pub loop-piece-preserved : goal.loop-piece-preserved
loop-piece-preserved c =
    let s = c.args.self.now in
    let at = c.loop-piece in
    let named = is_channel_on s.support in
    let brings : List ℕ → Bool = λ name. join_adds c.args.nick.now name s in
    ap (λ ps. list_any brings (filter named ps)) (map-append (λ x. x.now) at.yielded (c.in-Some.piece ∷ []))
    ∙ piece_none named brings (map (λ x. x.now) at.yielded) c.in-Some.piece.now at.invariant
    (sym c.piece_adds.ensures ∙ c.if-piece_adds.false)

pub returns-then-piece_adds : goal.returns-then-piece_adds
returns-then-piece_adds c =
    let s = c.args.self.now in
    let at = YieldsList-turn (YieldsList-at c.into_iter-piece-iterator.ensures.into_iter_gives
    (YieldsList-from_slice_split _ (λ b. eqb b 44) c.args.list.now c.split-piece-items.ensures.rest c.split-piece-items.ensures.done
    c.split-piece-items.ensures.closure (λ x r q k. search (rules, tests)))) c.loop-piece.yielded _ c.loop-piece.yielded_by _ _ c.in-Some.piece c.in-Some.is
    c.next.ensures.steps in
    let parts = and-parts _ _ (sym c.piece_adds.ensures ∙ c.if-piece_adds.true) in
    sym (any-piece (is_channel_on s.support) (λ name. join_adds c.args.nick.now name s) _ _ c.in-Some.piece.now at.0 at.1 parts.0 parts.1)

pub returns : goal.returns
returns c =
    let s = c.args.self.now in
    let all = YieldsList-end (YieldsList-at c.into_iter-piece-iterator.ensures.into_iter_gives
    (YieldsList-from_slice_split _ (λ b. eqb b 44) c.args.list.now c.split-piece-items.ensures.rest c.split-piece-items.ensures.done
    c.split-piece-items.ensures.closure (λ x r q k. search (rules, tests)))) c.loop-piece.yielded _ c.loop-piece.yielded_by _ _ c.in-None.is
    c.next.ensures.steps in
    sym (ap (λ ps. list_any (λ name. join_adds c.args.nick.now name s) (filter (is_channel_on s.support) ps)) (sym all.0) ∙ c.loop-piece.invariant)
