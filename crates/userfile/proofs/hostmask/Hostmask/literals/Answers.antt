use Rattle.std.proofs.Common.{◌∙◌, ap, List, ℕ}
use Rattle.wildmask.specs.declared.items.MaskKind.{MaskKind}
use Rattle.wildmask.specs.declared.items.MaskKind.TheVariants.{Host}
use Rattle.wildmask.specs.Items.{literals_of}
use Rattle.userfile.specs.Hostmasks.{literals}
use Rattle.userfile.proofs.hostmask.Hostmask.literals.Goals as goal

pub returns : goal.returns
unfolding literals
returns c =
    c.literals.ensures ∙ ap (λ (k : MaskKind). literals_of k c.self.inside.mask.text) c.self.invariant
    ∙ ap (λ (t : List ℕ). literals_of Host t) c.self.view_is
