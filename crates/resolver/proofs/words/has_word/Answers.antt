use Rattle.std.proofs.Common.{◌∙◌, ap, rules, tests}
use Rattle.std.proofs.lemmas.Iterator.Consumers.{YieldsList-end}
use Rattle.std.proofs.lemmas.Iterator.Splits.{YieldsList-from_slice_split}
use Rattle.std.specs.List.{list_any}
use Rattle.std.specs.Str.{bytes_eq}
use Rattle.resolver.specs.Files.{is_blank}
use Rattle.resolver.specs.Replies.{folded}
use Rattle.resolver.proofs.FileLemmas.{any-more}
use Rattle.resolver.proofs.words.has_word.Goals as goal

pub loop-other-preserved : goal.loop-other-preserved
loop-other-preserved c =
    any-more (λ other. bytes_eq (folded other) (folded c.args.word.now)) c.loop-other.yielded c.in-Some.other c.loop-other.has c.is_same-has.result
    c.loop-other.invariant c.is_same-has.ensures

pub returns : goal.returns
returns c =
    let from = c.into_iter-other-iterator.ensures.into_iter_gives in
    let cut = YieldsList-end (YieldsList-from_slice_split _ is_blank c.args.line.now
    (ap (λ s. s.rest.now) from ∙ c.split-other-items.ensures.rest) (ap (λ s. s.done) from ∙ c.split-other-items.ensures.done) (ap (λ s. s.pred) from
    ∙ c.split-other-items.ensures.closure) (λ x r q k. search (rules, tests)))
    c.loop-other.yielded _ c.loop-other.yielded_by _ _ c.in-None.is c.next.ensures.steps in
    c.loop-other.invariant ∙ ap (list_any (λ other. bytes_eq (folded other) (folded c.args.word.now))) cut.0
