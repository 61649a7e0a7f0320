use Rattle.std.proofs.Common.{◌∙◌, ap, List, ℕ}
use Rattle.wildmask.specs.declared.items.MaskKind.{MaskKind}
use Rattle.wildmask.specs.declared.items.MaskKind.TheVariants.{Host}
use Rattle.wildmask.specs.Items.{items_of}
use Rattle.wildmask.specs.Tails.{tail_of}
use Rattle.userfile.specs.Hostmasks.{mask_tail}
use Rattle.userfile.proofs.hostmask.Hostmask.tail.Goals as goal

pub returns-clause-value : goal.returns-clause-value
unfolding mask_tail
returns-clause-value c =
    c.tail.ensures.value ∙ ap (λ (k : MaskKind). tail_of (items_of k c.self.inside.mask.text)) c.self.invariant
    ∙ ap (λ (t : List ℕ). tail_of (items_of Host t)) c.self.view_is
