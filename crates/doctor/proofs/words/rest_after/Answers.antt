use Rattle.std.proofs.Common.{◌∙◌, ◌==◌, ap, sym, option_map, rules, tests}
use Rattle.std.proofs.lemmas.Iterator.Consumers.{YieldsList-end}
use Rattle.std.proofs.lemmas.Iterator.Splits.{YieldsList-from_slice_split}
use Rattle.doctor.specs.Words.{first_of, rest_on}
use Rattle.doctor.proofs.WordLemmas.{rest_on-more}
use Rattle.doctor.proofs.words.rest_after.Goals as goal

pub loop-line-preserved : goal.loop-line-preserved
loop-line-preserved c =
    c.first_of-found.ensures
    ∙ ap (λ found. first_of found (option_map (λ rest. rest.now) c.rest_of.result)) c.loop-line.invariant
    ∙ ap (first_of (rest_on c.args.label.now _)) c.rest_of.ensures
    ∙ sym (rest_on-more c.args.label.now c.loop-line.yielded c.in-Some.line)

pub returns : goal.returns
returns c =
    let from = c.into_iter-line-iterator.ensures.into_iter_gives in
    let cut = YieldsList-end (YieldsList-from_slice_split _ (λ b. b == 10) c.args.text.now
    (ap (λ s. s.rest.now) from ∙ c.split-line-items.ensures.rest) (ap (λ s. s.done) from ∙ c.split-line-items.ensures.done) (ap (λ s. s.pred) from
    ∙ c.split-line-items.ensures.closure) (λ x r q k. search (rules, tests)))
    c.loop-line.yielded _ c.loop-line.yielded_by _ _ c.in-None.is c.next.ensures.steps in
    c.loop-line.invariant ∙ ap (rest_on c.args.label.now) cut.0
