use Rattle.std.proofs.Common.{◌≡◌, ◌∙◌, true, false, [], ◌∷◌, ap, sym, map, filter, eqb, rules, tests}
use Rattle.std.proofs.lemmas.List.{map-append}
use Rattle.std.proofs.lemmas.Iterator.Consumers.{YieldsList-at, YieldsList-turn, YieldsList-end}
use Rattle.std.proofs.lemmas.Iterator.Splits.{YieldsList-from_slice_split}
use Rattle.chanstate.specs.Items.{is_channel_on}
use Rattle.chanstate.specs.Channels.{is_held}
use Rattle.chanstate.specs.Members.{unmarked}
use Rattle.chanstate.specs.Takes.{came_each}
use Rattle.chanstate.proofs.TakeLemmas.{held-given}
use Rattle.chanstate.proofs.ComeLemmas.{came_more, any-piece}
use Rattle.chanstate.proofs.channels.Channels.ready_arrivals.Goals as goal

pub loop-piece-preserved : goal.loop-piece-preserved
loop-piece-preserved c =
    let one = unmarked c.args.person.nick.now c.args.person.user.now c.args.person.host.now in
    let at = c.loop-piece in
    let so_far = map (λ x. x.now) at.yielded in
    let piece = c.in-Some.piece.now in
    record {
      kept = c.ready_arrival.ensures.kept;
      back = c.ready_arrival.ensures.back ∙ at.invariant.back;
      done = c.in-Ok.ensures.done ∙ ap (came_each c.args.mapping one (filter (is_channel_on c.args.support.now) (piece ∷ []))) at.invariant.done
          ∙ came_more c.args.mapping one (is_channel_on c.args.support.now) so_far piece c.args.self.now
          ∙ sym (ap (λ ps. came_each c.args.mapping one (filter (is_channel_on c.args.support.now) ps) c.args.self.now) (map-append (λ x. x.now) at.yielded (c.in-Some.piece ∷ [])));
    }

pub returns-in-Err-clause-memory : goal.returns-in-Err-clause-memory
returns-in-Err-clause-memory c =
    let at = YieldsList-turn (YieldsList-at c.into_iter-piece-iterator.ensures.into_iter_gives
    (YieldsList-from_slice_split _ (λ b. eqb b 44) c.args.list.now c.split-piece-items.ensures.rest c.split-piece-items.ensures.done
    c.split-piece-items.ensures.closure (λ x r q k. search (rules, tests)))) c.loop-piece.yielded _ c.loop-piece.yielded_by _ _ c.in-Some.piece c.in-Some.is
    c.next.ensures.steps in
    let name = c.in-Some.piece.now in
    let held : is_held c.args.mapping name c.args.self.now ≡ true = sym (ap (is_held c.args.mapping name) c.loop-piece.invariant.back)
    ∙ held-given c.args.mapping name false c.loop-piece.takes.items c.loop-piece.self ∙ c.in-Err.ensures.held in
    any-piece (is_channel_on c.args.support.now) (λ n. is_held c.args.mapping n c.args.self.now) _ _ name at.0 at.1 c.in-Err.ensures.named held

pub returns-clause-ready : goal.returns-clause-ready
returns-clause-ready c =
    let one = unmarked c.args.person.nick.now c.args.person.user.now c.args.person.host.now in
    let all = YieldsList-end (YieldsList-at c.into_iter-piece-iterator.ensures.into_iter_gives
    (YieldsList-from_slice_split _ (λ b. eqb b 44) c.args.list.now c.split-piece-items.ensures.rest c.split-piece-items.ensures.done
    c.split-piece-items.ensures.closure (λ x r q k. search (rules, tests)))) c.loop-piece.yielded _ c.loop-piece.yielded_by _ _ c.in-None.is
    c.next.ensures.steps in
    (c.loop-piece.invariant.back, c.loop-piece.invariant.done ∙ ap (λ ps. came_each c.args.mapping one (filter (is_channel_on c.args.support.now) ps) c.args.self.now) all.0)
