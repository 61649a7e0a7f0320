use Rattle.std.proofs.Common.{◌∙◌, ap, map, filter, eqb, rules, tests}
use Rattle.std.specs.List.{filter_map}
use Rattle.std.proofs.lemmas.Iterator.Consumers.{YieldsList-at, YieldsList-end}
use Rattle.std.proofs.lemmas.Iterator.Splits.{YieldsList-from_slice_split}
use Rattle.chanstate.specs.Items.{is_channel_on}
use Rattle.chanstate.specs.Comings.{spelled}
use Rattle.chanstate.specs.Deeds.{told}
use Rattle.chanstate.proofs.ToldLemmas.{told_more}
use Rattle.chanstate.proofs.comings.on_listed.Goals as goal

pub loop-piece-preserved : goal.loop-piece-preserved
loop-piece-preserved c =
    told_more (λ x. x.now) (told c.args.deed.now) (spelled c.args.own c.args.state.now) (is_channel_on c.args.state.now.support) c.loop-piece.yielded c.in-Some.piece
    _ _ _ c.loop-piece.invariant c.spelled_piece.ensures c.in_ok-push_on.ensures

pub returns : goal.returns
returns c =
    let all = YieldsList-end (YieldsList-at c.into_iter-piece-iterator.ensures.into_iter_gives
    (YieldsList-from_slice_split _ (λ b. eqb b 44) c.args.list.now c.split-piece-items.ensures.rest c.split-piece-items.ensures.done
    c.split-piece-items.ensures.closure (λ x r q k. search (rules, tests)))) c.loop-piece.yielded _ c.loop-piece.yielded_by _ _ c.in-None.is
    c.next.ensures.steps in
    c.loop-piece.invariant
    ∙ ap (λ ps. map (told c.args.deed.now) (filter_map (spelled c.args.own c.args.state.now) (filter (is_channel_on c.args.state.now.support) ps))) all.0
