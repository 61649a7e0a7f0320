use Rattle.std.proofs.Common.{◌∙◌, ap, drop}
use Rattle.std.proofs.lemmas.List.{drop_min}
use Rattle.administrators.proofs.told_changes.after.Goals as goal

pub returns : goal.returns
returns c =
    c.split_at.ensures.back ∙ ap (λ n. drop n c.args.held.now) c.min-skipped.ensures ∙ drop_min c.args.count c.args.held.now
