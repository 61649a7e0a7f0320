use Rattle.std.proofs.Common.{ap, ◌∙◌}
use Rattle.wildmask.specs.Items.{literals_of}
use Rattle.wildmask.specs.Masks.{GivenMask}
use Rattle.wildmask.proofs.masks.Mask.literals.Goals as goal

pub returns : goal.returns
returns c = c.self.invariant.1 ∙ ap (λ (m : GivenMask). literals_of m.kind m.text) c.self.view_is
