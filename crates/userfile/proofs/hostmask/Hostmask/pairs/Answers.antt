use Rattle.std.proofs.Common.{◌∙◌, ap, List, ℕ}
use Rattle.wildmask.specs.declared.items.MaskKind.{MaskKind}
use Rattle.wildmask.specs.declared.items.MaskKind.TheVariants.{Host}
use Rattle.wildmask.specs.Items.{items_of}
use Rattle.wildmask.specs.Signatures.{items_signature}
use Rattle.userfile.specs.Hostmasks.{mask_pairs}
use Rattle.userfile.proofs.hostmask.Hostmask.pairs.Goals as goal

pub returns : goal.returns
unfolding mask_pairs
returns c =
    c.signature.ensures.value ∙ ap (λ (k : MaskKind). items_signature (items_of k c.self.inside.mask.text)) c.self.invariant
    ∙ ap (λ (t : List ℕ). items_signature (items_of Host t)) c.self.view_is
