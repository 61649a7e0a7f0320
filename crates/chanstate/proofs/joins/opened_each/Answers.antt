use Rattle.std.proofs.Common.{◌∙◌, [], ◌∷◌, ◌++◌, ap, sym, map, filter, eqb, rules, tests}
use Rattle.std.proofs.lemmas.List.{map-append}
use Rattle.std.proofs.lemmas.List.Elements.{filter-append}
use Rattle.std.proofs.lemmas.Iterator.Consumers.{YieldsList-at, YieldsList-turn, YieldsList-end}
use Rattle.std.proofs.lemmas.Iterator.Splits.{YieldsList-from_slice_split}
use Rattle.std.proofs.Common.{List, ℕ}
use Rattle.chanstate.specs.declared.channel.Channel.{Channel}
use Rattle.chanstate.specs.Items.{is_channel_on}
use Rattle.chanstate.specs.Channels.{opened}
use Rattle.chanstate.specs.Members.{unmarked}
use Rattle.chanstate.proofs.KeptLemmas.{named-piece}
use Rattle.chanstate.proofs.joins.opened_each.Goals as goal

pub loop-piece-preserved : goal.loop-piece-preserved
loop-piece-preserved c =
    let one : List ℕ → Channel = λ name. opened name (unmarked c.args.person.nick.now c.args.person.user.now c.args.person.host.now) in
    let so_far = map (λ x. x.now) c.loop-piece.yielded in
    let next = c.in-Some.piece.now ∷ [] in
    c.in_ok-open_piece.ensures.opened ∙ ap (λ cs. cs ++ map one (filter (is_channel_on c.args.support.now) next)) c.loop-piece.invariant
    ∙ sym (map-append one (filter (is_channel_on c.args.support.now) so_far) (filter (is_channel_on c.args.support.now) next))
    ∙ sym (ap (map one) (filter-append (is_channel_on c.args.support.now) so_far next))
    ∙ sym (ap (λ ps. map one (filter (is_channel_on c.args.support.now) ps)) (map-append (λ x. x.now) c.loop-piece.yielded (c.in-Some.piece ∷ [])))

pub returns-in_err-open_piece-clause-memory : goal.returns-in_err-open_piece-clause-memory
returns-in_err-open_piece-clause-memory c =
    let at = YieldsList-turn (YieldsList-at c.into_iter-piece-iterator.ensures.into_iter_gives
    (YieldsList-from_slice_split _ (λ b. eqb b 44) c.args.list.now c.split-piece-items.ensures.rest c.split-piece-items.ensures.done
    c.split-piece-items.ensures.closure (λ x r q k. search (rules, tests)))) c.loop-piece.yielded _ c.loop-piece.yielded_by _ _ c.in-Some.piece
    c.in-Some.is c.next.ensures.steps in
    let some = named-piece (is_channel_on c.args.support.now) _ _ c.in-Some.piece.now at.0 at.1 c.in_err-open_piece.ensures.named in
    search (rules, some)

pub returns-clause-opened : goal.returns-clause-opened
returns-clause-opened c =
    let all = YieldsList-end (YieldsList-at c.into_iter-piece-iterator.ensures.into_iter_gives
    (YieldsList-from_slice_split _ (λ b. eqb b 44) c.args.list.now c.split-piece-items.ensures.rest c.split-piece-items.ensures.done
    c.split-piece-items.ensures.closure (λ x r q k. search (rules, tests)))) c.loop-piece.yielded _ c.loop-piece.yielded_by _ _ c.in-None.is
    c.next.ensures.steps in
    c.loop-piece.invariant
    ∙ ap (λ ps. map (λ name. opened name (unmarked c.args.person.nick.now c.args.person.user.now c.args.person.host.now)) (filter (is_channel_on c.args.support.now) ps)) all.0
