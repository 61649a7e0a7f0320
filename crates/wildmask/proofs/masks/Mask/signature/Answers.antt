use Rattle.std.proofs.Common.{◌≡◌, true, subst, sym, ap, ◌∙◌}
use Rattle.wildmask.specs.Masks.{GivenMask, mask_items}
use Rattle.wildmask.specs.Signatures.{Pairs, items_signature, text_signature, is_within}
use Rattle.wildmask.proofs.MatchLemmas.{Matches-wider}
use Rattle.wildmask.proofs.SignatureLemmas.{is_within-from, signature_within}
use Rattle.wildmask.proofs.masks.Mask.signature.Goals as goal

pub returns-clause-value : goal.returns-clause-value
returns-clause-value c = c.self.invariant.2 ∙ ap (λ (m : GivenMask). items_signature (mask_items m)) c.self.view_is

pub returns-clause-needed : goal.returns-clause-needed
returns-clause-needed c = λ by text m. subst (λ (n : Pairs). is_within n (text_signature text)
    ≡ true) (sym (returns-clause-value c)) (is_within-from _ _ (signature_within (mask_items c.args.self.now) text (Matches-wider by (mask_items c.args.self.now) text m)))
