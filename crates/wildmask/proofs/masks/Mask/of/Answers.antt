use Rattle.std.proofs.Common.{◌≡◌, List, ℕ, ap, ◌∙◌, sym, subst, refl, Option, Some, None, Ok}
use Rattle.bytetext.specs.Refusals.{refused_with}
use Rattle.wildmask.specs.declared.faults.MaskFault.{MaskFault}
use Rattle.wildmask.specs.Items.{items_of, literals_of}
use Rattle.wildmask.specs.Masks.{fault_of}
use Rattle.wildmask.specs.Signatures.{items_signature}
use Rattle.wildmask.proofs.masks.Mask.of.Goals as goal

not_refused : (fault : Option MaskFault) → refused_with fault ≡ Ok tt → fault ≡ None
not_refused None ok = refl
not_refused (Some fault) ok = cc

pub invariant_of-result : goal.invariant_of-result
invariant_of-result c = (
  subst (λ (text : List ℕ). fault_of c.args.kind text ≡ None) (sym c.in_ok-text.ensures) (sym c.fault_of.ensures
      ∙ not_refused c.fault_of.result (sym c.refuse.ensures ∙ c.in_ok-refuse.was)),
  c.needs_of-needs.ensures.literals ∙ ap (λ (text : List ℕ). literals_of c.args.kind text) (sym c.in_ok-text.ensures),
  c.needs_of-needs.ensures.pairs ∙ ap (λ (text : List ℕ). items_signature (items_of c.args.kind text)) (sym c.in_ok-text.ensures),
)
