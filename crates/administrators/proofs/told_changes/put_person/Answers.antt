use Rattle.std.proofs.Common.{◌∙◌, ◌++◌, ap, codes}
use Rattle.std.proofs.lemmas.List.{append_assoc}
use Rattle.administrators.proofs.told_changes.put_person.Goals as goal

pub returns : goal.returns
returns c =
    c.in_ok-extend_from_slice-2.ensures.items
    ∙ ap (λ text. text ++ c.args.person.now) c.in_ok-extend_from_slice.ensures.items
    ∙ append_assoc c.args.line.now.items (codes ", in the name of ") c.args.person.now
