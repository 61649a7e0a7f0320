use Rattle.std.proofs.Common.{◌∙◌, ap, rules, tests}
use Rattle.std.proofs.lemmas.Iterator.Consumers.{YieldsList-end}
use Rattle.std.proofs.lemmas.Iterator.Splits.{YieldsList-from_slice_split}
use Rattle.std.specs.List.{list_any}
use Rattle.doctor.specs.Words.{is_blank, is_number}
use Rattle.doctor.proofs.WordLemmas.{any-more}
use Rattle.doctor.proofs.words.is_among.Goals as goal

pub loop-word-preserved : goal.loop-word-preserved
loop-word-preserved c =
    any-more (is_number c.args.number) c.loop-word.yielded c.in-Some.word c.loop-word.is_there c.is_number-is_there.result
    c.loop-word.invariant c.is_number-is_there.ensures

pub returns : goal.returns
returns c =
    let from = c.into_iter-word-iterator.ensures.into_iter_gives in
    let cut = YieldsList-end (YieldsList-from_slice_split _ is_blank c.args.line.now
    (ap (λ s. s.rest.now) from ∙ c.split-word-items.ensures.rest) (ap (λ s. s.done) from ∙ c.split-word-items.ensures.done) (ap (λ s. s.pred) from
    ∙ c.split-word-items.ensures.closure) (λ x r q k. search (rules, tests)))
    c.loop-word.yielded _ c.loop-word.yielded_by _ _ c.in-None.is c.next.ensures.steps in
    c.loop-word.invariant ∙ ap (list_any (is_number c.args.number)) cut.0
