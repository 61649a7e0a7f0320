use Rattle.std.proofs.Common.{◌≡◌, None, List, ℕ, true, ap, subst}
use Rattle.std.specs.Option.{is_none}
use Rattle.wildmask.specs.declared.items.MaskKind.{MaskKind}
use Rattle.wildmask.specs.declared.items.MaskKind.TheVariants.{Host}
use Rattle.wildmask.specs.Masks.{fault_of}
use Rattle.userfile.specs.Shapes.{is_hostmask}
use Rattle.userfile.proofs.hostmask.Hostmask.as_bytes.Goals as goal

pub returns-clause-good : goal.returns-clause-good
unfolding is_hostmask
returns-clause-good c =
    let sound = subst (λ (k : MaskKind). fault_of k c.self.inside.mask.text ≡ None) c.self.invariant c.text.ensures.sound in
    subst (λ (t : List ℕ). is_none (fault_of Host t) ≡ true) c.self.view_is (ap is_none sound)
