use Rattle.std.proofs.Common.{◌∙◌, [], ◌∷◌, ap, sym, map, filter, eqb, rules, tests}
use Rattle.std.proofs.lemmas.List.{map-append}
use Rattle.std.proofs.lemmas.Iterator.Consumers.{YieldsList-at, YieldsList-end}
use Rattle.std.proofs.lemmas.Iterator.Splits.{YieldsList-from_slice_split}
use Rattle.rfccase.specs.Channels.{is_channel_name}
use Rattle.chanstate.specs.Items.{Left}
use Rattle.chanstate.specs.Steps.{steps}
use Rattle.chanstate.proofs.StepLemmas.{pieces_more}
use Rattle.chanstate.proofs.state.ChanState.leave_all.Goals as goal

pub loop-piece-preserved : goal.loop-piece-preserved
loop-piece-preserved c =
    let s = c.args.self.now in
    let says = Left c.args.nick.now in
    let so_far = map (λ x. x.now) c.loop-piece.yielded in
    c.leave_piece.ensures ∙ ap (steps (map says (filter is_channel_name (c.in-Some.piece.now ∷ [])))) c.loop-piece.invariant
    ∙ pieces_more says is_channel_name so_far c.in-Some.piece.now s
    ∙ sym (ap (λ ps. steps (map says (filter is_channel_name ps)) s) (map-append (λ x. x.now) c.loop-piece.yielded (c.in-Some.piece ∷ [])))

pub returns : goal.returns
returns c =
    let all = YieldsList-end (YieldsList-at c.into_iter-piece-iterator.ensures.into_iter_gives
    (YieldsList-from_slice_split _ (λ b. eqb b 44) c.args.list.now c.split-piece-items.ensures.rest c.split-piece-items.ensures.done
    c.split-piece-items.ensures.closure (λ x r q k. search (rules, tests)))) c.loop-piece.yielded _ c.loop-piece.yielded_by _ _ c.in-None.is
    c.next.ensures.steps in
    c.loop-piece.invariant ∙ ap (λ ps. steps (map (Left c.args.nick.now) (filter is_channel_name ps)) c.args.self.now) all.0
