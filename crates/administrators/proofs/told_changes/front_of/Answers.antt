use Rattle.std.proofs.Common.{◌∙◌, ap, take}
use Rattle.std.proofs.lemmas.List.{take_min}
use Rattle.administrators.proofs.told_changes.front_of.Goals as goal

pub returns : goal.returns
returns c =
    c.split_at.ensures.front ∙ ap (λ n. take n c.args.changes.now) c.min-count.ensures ∙ take_min _ c.args.changes.now
