use Rattle.std.proofs.Common.{◌≡◌, true, subst, sym, ap, ◌∙◌}
use Rattle.wildmask.specs.Masks.{mask_items}
use Rattle.wildmask.specs.WideSignatures.{WidePairs, wide_items_signature, wide_text_signature, is_wide_within}
use Rattle.wildmask.proofs.MatchLemmas.{Matches-wider}
use Rattle.wildmask.proofs.SignatureLemmas.{wide_within, wide_items_signature-lower}
use Rattle.wildmask.proofs.masks.Mask.wide_signature.Goals as goal

pub returns-clause-value : goal.returns-clause-value
returns-clause-value c = c.wide_signature.ensures ∙ ap wide_items_signature c.pattern.ensures ∙ wide_items_signature-lower (mask_items c.args.self.now)

pub returns-clause-needed : goal.returns-clause-needed
returns-clause-needed c = λ by text m. subst (λ (n : WidePairs). is_wide_within n (wide_text_signature text) ≡ true)
    (sym (returns-clause-value c)) (wide_within (mask_items c.args.self.now) text (Matches-wider by (mask_items c.args.self.now) text m))
