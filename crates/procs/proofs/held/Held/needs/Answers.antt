use Rattle.std.proofs.Common.{subst, ◌∙◌}
use Rattle.procs.specs.declared.bind.Bind.{Bind}
use Rattle.procs.specs.declared.matcher.Matcher.{Matcher}
use Rattle.procs.specs.declared.matcher.Matcher.TheVariants.{Wildcards}
use Rattle.procs.specs.Masks.{Says}
use Rattle.procs.proofs.MaskLemmas.{needs-wildcards}
use Rattle.procs.proofs.held.Held.needs.Goals as goal

pub returns-in-Wildcards : goal.returns-in-Wildcards
returns-in-Wildcards c =
    c.wide_signature.ensures.value
    ∙ needs-wildcards c.args.self.now c.in-Wildcards.mask
    (subst (λ (b : Bind). Says b.kind b.mask (Wildcards c.in-Wildcards.mask)) c.self.view_is
    (subst (λ (m : Matcher). Says c.self.inside.bind.kind c.self.inside.bind.mask m) c.in-Wildcards.is c.self.invariant.1))
