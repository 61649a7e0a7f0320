use Rattle.std.proofs.Common.{◌∙◌, ◌||◌, ap, sym, map, eqb, not, rules, tests}
use Rattle.std.specs.List.{filter_map, list_any}
use Rattle.std.specs.Option.{option_to_list}
use Rattle.std.proofs.lemmas.Iterator.Consumers.{YieldsList-at, YieldsList-turn, YieldsList-end}
use Rattle.std.proofs.lemmas.Iterator.Splits.{YieldsList-from_slice_split}
use Rattle.std.proofs.lemmas.List.Folds.{list_any-append}
use Rattle.std.proofs.Common.{Bool}
use Rattle.chanstate.specs.declared.member.Member.{Member}
use Rattle.chanstate.specs.Items.{named}
use Rattle.chanstate.specs.Members.{has_member}
use Rattle.chanstate.proofs.WordLemmas.{named_more, named_among}
use Rattle.chanstate.proofs.roster.Roster.lacks_any.Goals as goal

pub returns-then-lacks : goal.returns-then-lacks
returns-then-lacks c =
    let at = YieldsList-turn (YieldsList-at c.into_iter-word-iterator.ensures.into_iter_gives
    (YieldsList-from_slice_split _ (λ b. eqb b 32) c.args.names.now c.split-word-items.ensures.rest c.split-word-items.ensures.done
    c.split-word-items.ensures.closure (λ x r q k. search (rules, tests)))) c.loop-word.yielded _ c.loop-word.yielded_by _ _ c.in-Some.word
    c.in-Some.is c.next.ensures.steps in
    sym (named_among (named c.args.support.now) (λ one. not (has_member c.args.mapping one.nick c.args.self.now)) _ _ c.in-Some.word.now at.0 at.1 (sym c.lacks.ensures ∙ c.if-lacks.true))

pub loop-word-preserved : goal.loop-word-preserved
loop-word-preserved c =
    let misses : Member → Bool = λ one. not (has_member c.args.mapping one.nick c.args.self.now) in
    ap (list_any misses) (named_more c.args.support.now c.loop-word.yielded c.in-Some.word)
    ∙ list_any-append misses (filter_map (named c.args.support.now) (map (λ x. x.now) c.loop-word.yielded)) (option_to_list (named c.args.support.now c.in-Some.word.now))
    ∙ ap (λ b. b || list_any misses (option_to_list (named c.args.support.now c.in-Some.word.now))) c.loop-word.invariant
    ∙ (sym c.lacks.ensures ∙ c.if-lacks.false)

pub returns : goal.returns
returns c =
    let all = YieldsList-end (YieldsList-at c.into_iter-word-iterator.ensures.into_iter_gives
    (YieldsList-from_slice_split _ (λ b. eqb b 32) c.args.names.now c.split-word-items.ensures.rest c.split-word-items.ensures.done
    c.split-word-items.ensures.closure (λ x r q k. search (rules, tests)))) c.loop-word.yielded _ c.loop-word.yielded_by _ _ c.in-None.is
    c.next.ensures.steps in
    sym (ap (λ ws. list_any (λ one. not (has_member c.args.mapping one.nick c.args.self.now)) (filter_map (named c.args.support.now) ws)) (sym all.0) ∙ c.loop-word.invariant)
