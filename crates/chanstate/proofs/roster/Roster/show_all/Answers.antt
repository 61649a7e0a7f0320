use Rattle.std.proofs.Common.{◌∙◌, ap, sym, map, eqb, rules, tests}
use Rattle.std.specs.List.{filter_map}
use Rattle.std.specs.Option.{option_to_list}
use Rattle.std.proofs.lemmas.Iterator.Consumers.{YieldsList-at, YieldsList-end}
use Rattle.std.proofs.lemmas.Iterator.Splits.{YieldsList-from_slice_split}
use Rattle.chanstate.specs.Items.{named}
use Rattle.chanstate.specs.Members.{shown_each}
use Rattle.chanstate.proofs.WordLemmas.{named_more, shown_each-append}
use Rattle.chanstate.proofs.roster.Roster.show_all.Goals as goal

pub loop-word-preserved : goal.loop-word-preserved
loop-word-preserved c =
    let before = filter_map (named c.args.support.now) (map (λ x. x.now) c.loop-word.yielded) in
    let one = option_to_list (named c.args.support.now c.in-Some.word.now) in
    c.show.ensures ∙ ap (shown_each c.args.mapping one) c.loop-word.invariant ∙ sym (shown_each-append c.args.mapping before one c.args.self.now)
    ∙ sym (ap (λ ms. shown_each c.args.mapping ms c.args.self.now) (named_more c.args.support.now c.loop-word.yielded c.in-Some.word))

pub returns : goal.returns
returns c =
    let all = YieldsList-end (YieldsList-at c.into_iter-word-iterator.ensures.into_iter_gives
    (YieldsList-from_slice_split _ (λ b. eqb b 32) c.args.names.now c.split-word-items.ensures.rest c.split-word-items.ensures.done
    c.split-word-items.ensures.closure (λ x r q k. search (rules, tests)))) c.loop-word.yielded _ c.loop-word.yielded_by _ _ c.in-None.is
    c.next.ensures.steps in
    c.loop-word.invariant ∙ ap (λ ws. shown_each c.args.mapping (filter_map (named c.args.support.now) ws) c.args.self.now) all.0
