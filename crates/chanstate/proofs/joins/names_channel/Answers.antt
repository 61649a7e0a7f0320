use Rattle.std.proofs.Common.{◌∙◌, [], ◌∷◌, ap, sym, map, eqb, rules, tests}
use Rattle.std.specs.List.{list_any, slice_split}
use Rattle.std.proofs.lemmas.List.{map-append}
use Rattle.std.proofs.lemmas.Iterator.Consumers.{YieldsList-at, YieldsList-turn, YieldsList-end}
use Rattle.std.proofs.lemmas.Iterator.Splits.{YieldsList-from_slice_split}
use Rattle.chanstate.specs.Items.{is_channel_on}
use Rattle.bytetext.proofs.Lists.{list_any-push}
use Rattle.chanstate.proofs.ComeLemmas.{any_named-some, any_named-long}
use Rattle.chanstate.proofs.KeptLemmas.{named-piece}
use Rattle.chanstate.proofs.joins.names_channel.Goals as goal

pub loop-piece-preserved : goal.loop-piece-preserved
loop-piece-preserved c =
    let at = c.loop-piece in
    ap (list_any (is_channel_on c.args.support.now)) (map-append (λ x. x.now) at.yielded (c.in-Some.piece ∷ []))
    ∙ list_any-push (is_channel_on c.args.support.now) (map (λ x. x.now) at.yielded) c.in-Some.piece.now at.invariant
    (sym c.is_channel.ensures ∙ c.if-is_channel.false)

pub returns-then-is_channel : goal.returns-then-is_channel
returns-then-is_channel c =
    let at = YieldsList-turn (YieldsList-at c.into_iter-piece-iterator.ensures.into_iter_gives
    (YieldsList-from_slice_split _ (λ b. eqb b 44) c.args.list.now c.split-piece-items.ensures.rest c.split-piece-items.ensures.done
    c.split-piece-items.ensures.closure (λ x r q k. search (rules, tests)))) c.loop-piece.yielded _ c.loop-piece.yielded_by _ _ c.in-Some.piece c.in-Some.is
    c.next.ensures.steps in
    sym (any_named-long _
    (named-piece (is_channel_on c.args.support.now) _ _ c.in-Some.piece.now at.0 at.1 (sym c.is_channel.ensures ∙ c.if-is_channel.true)))

pub returns : goal.returns
returns c =
    let all = YieldsList-end (YieldsList-at c.into_iter-piece-iterator.ensures.into_iter_gives
    (YieldsList-from_slice_split _ (λ b. eqb b 44) c.args.list.now c.split-piece-items.ensures.rest c.split-piece-items.ensures.done
    c.split-piece-items.ensures.closure (λ x r q k. search (rules, tests)))) c.loop-piece.yielded _ c.loop-piece.yielded_by _ _ c.in-None.is
    c.next.ensures.steps in
    sym (sym (any_named-some (is_channel_on c.args.support.now) (slice_split (λ b. eqb b 44) c.args.list.now)) ∙ (ap (list_any (is_channel_on c.args.support.now)) (sym all.0) ∙ c.loop-piece.invariant))
