use Rattle.std.proofs.Common.{◌∙◌, ◌==◌, map, ap, rules, tests}
use Rattle.std.proofs.lemmas.Iterator.Consumers.{YieldsList-end}
use Rattle.std.proofs.lemmas.Iterator.Splits.{YieldsList-from_slice_split}
use Rattle.recordtext.proofs.pieces.pieces_of.Goals as goal

pub returns : goal.returns
returns c =
    let from = c.into_iter-piece-iterator.ensures.into_iter_gives in
    let cut = YieldsList-end (YieldsList-from_slice_split _ (λ b. b == c.args.separator) c.args.bytes.now
    (ap (λ s. s.rest.now) from ∙ c.split-piece-items.ensures.rest) (ap (λ s. s.done) from ∙ c.split-piece-items.ensures.done) (ap (λ s. s.pred) from
    ∙ c.split-piece-items.ensures.closure) (λ x r q k. search (rules, tests)))
    c.loop-piece.yielded _ c.loop-piece.yielded_by _ _ c.in-None.is c.next.ensures.steps in
    ap (λ l. map (λ x. x.now) l) c.loop-piece.invariant ∙ cut.0
