use Rattle.std.proofs.Common.{◌∙◌, ◌↔◌, IsTrue, subst, sym}
use Rattle.settings.specs.Addresses.{SpellsAddress}
use Rattle.settings.proofs.AddressLemmas.{parsed_is, is_address-spells}
use Rattle.settings.proofs.address.is_address.Goals as goal

pub returns-clause-value : goal.returns-clause-value
returns-clause-value c = c.is_ok.ensures.value ∙ parsed_is _ _ c.parse_ascii.ensures

pub returns-clause-spells : goal.returns-clause-spells
returns-clause-spells c =
    subst (λ b. IsTrue b ↔ SpellsAddress c.args.host.now) (sym (c.is_ok.ensures.value ∙ parsed_is _ _ c.parse_ascii.ensures))
    (is_address-spells c.args.host.now)
