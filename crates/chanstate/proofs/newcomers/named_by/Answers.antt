use Rattle.std.proofs.Common.{◌∙◌, ◌++◌, ap, sym, map, eqb, rules, tests}
use Rattle.std.specs.List.{filter_map}
use Rattle.std.specs.Option.{option_to_list}
use Rattle.std.proofs.lemmas.Iterator.Consumers.{YieldsList-at, YieldsList-end}
use Rattle.std.proofs.lemmas.Iterator.Splits.{YieldsList-from_slice_split}
use Rattle.chanstate.specs.Items.{named}
use Rattle.chanstate.proofs.WordLemmas.{named_more}
use Rattle.chanstate.proofs.newcomers.named_by.Goals as goal

pub loop-word-preserved : goal.loop-word-preserved
loop-word-preserved c =
    let one = c.in_ok-named_member.field-0 in
    let before = filter_map (named c.args.support.now) (map (λ x. x.now) c.loop-word.yielded) in
    record {
      keyed = c.in_ok-push_some.ensures.keyed;
      named = c.in_ok-push_some.ensures.pushed ∙ ap (λ ms. ms ++ option_to_list one) c.loop-word.invariant.named
          ∙ ap (λ o. before ++ option_to_list o) c.in_ok-named_member.ensures.named
          ∙ sym (named_more c.args.support.now c.loop-word.yielded c.in-Some.word);
    }

pub returns-clause-named : goal.returns-clause-named
returns-clause-named c =
    let all = YieldsList-end (YieldsList-at c.into_iter-word-iterator.ensures.into_iter_gives
    (YieldsList-from_slice_split _ (λ b. eqb b 32) c.args.names.now c.split-word-items.ensures.rest c.split-word-items.ensures.done
    c.split-word-items.ensures.closure (λ x r q k. search (rules, tests)))) c.loop-word.yielded _ c.loop-word.yielded_by _ _ c.in-None.is
    c.next.ensures.steps in
    c.loop-word.invariant.named ∙ ap (filter_map (named c.args.support.now)) all.0
