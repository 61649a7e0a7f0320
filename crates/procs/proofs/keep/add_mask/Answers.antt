use Rattle.std.proofs.Common.{◌++◌, ◌∷◌, [], sym, ap, ◌∙◌}
use Rattle.procs.proofs.IndexLemmas.{without_replaced-mask}
use Rattle.procs.proofs.keep.add_mask.Goals as goal

pub returns-clause-ok : goal.returns-clause-ok
returns-clause-ok c =
    c.push_reserved.ensures.items
    ∙ ap (λ bs. bs ++ c.args.one ∷ [])
    (c.reserve.ensures.items ∙ sym (without_replaced-mask c.args.one.kind c.args.one.mask c.args.held.now.items c.requires.kind))
