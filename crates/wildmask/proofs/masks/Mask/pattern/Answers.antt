use Rattle.std.proofs.Common.{List, ℕ, ap, ◌∙◌, map}
use Rattle.wildmask.specs.Codes.{lower}
use Rattle.wildmask.specs.Items.{items_of}
use Rattle.wildmask.specs.Masks.{GivenMask, mask_items}
use Rattle.wildmask.proofs.masks.Mask.pattern.Goals as goal

pub returns : goal.returns
returns c = c.of.ensures ∙ ap (λ (text : List ℕ). map (lower c.args.mapping) (items_of c.self.inside.kind text)) c.as_bytes.ensures
    ∙ ap (λ (m : GivenMask). map (lower c.args.mapping) (mask_items m)) c.self.view_is
