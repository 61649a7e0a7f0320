use Rattle.std.proofs.Common.{◌∙◌, ap, filter, eqb, rules, tests}
use Rattle.std.specs.List.{filter_map, flat_map}
use Rattle.std.proofs.lemmas.Iterator.Consumers.{YieldsList-at, YieldsList-end}
use Rattle.std.proofs.lemmas.Iterator.Splits.{YieldsList-from_slice_split}
use Rattle.rfccase.specs.Channels.{is_channel_name}
use Rattle.botcore.specs.Automatic.{guarded_as, kept_off}
use Rattle.botcore.proofs.AutomaticLemmas.{kept_more}
use Rattle.botcore.proofs.joining.Newcomer.wishes_on.Goals as goal

pub loop-piece-preserved : goal.loop-piece-preserved
loop-piece-preserved c =
    let self = c.args.self.now in
    kept_more (λ x. x.now) (kept_off self.mapping self.userfile.now.bans self.second self.nick.now self.who.now) (guarded_as c.args.state.now) is_channel_name
    c.loop-piece.yielded c.in-Some.piece _ _ _ c.loop-piece.invariant c.guarded_piece.ensures c.in_ok-push_on.ensures

pub returns : goal.returns
returns c =
    let self = c.args.self.now in
    let all = YieldsList-end (YieldsList-at c.into_iter-piece-iterator.ensures.into_iter_gives
    (YieldsList-from_slice_split _ (λ b. eqb b 44) c.args.list.now c.split-piece-items.ensures.rest c.split-piece-items.ensures.done
    c.split-piece-items.ensures.closure (λ x r q k. search (rules, tests)))) c.loop-piece.yielded _ c.loop-piece.yielded_by _ _ c.in-None.is
    c.next.ensures.steps in
    c.loop-piece.invariant
    ∙ ap (λ ps. flat_map (kept_off self.mapping self.userfile.now.bans self.second self.nick.now self.who.now)
    (filter_map (guarded_as c.args.state.now) (filter is_channel_name ps))) all.0
