use Rattle.std.proofs.Common.{◌∙◌, sym}
use Rattle.peers.proofs.DoubtLemmas.{trusts_none}
use Rattle.peers.proofs.hub_links.HubLinks.trust.Goals as goal

pub returns-then-not-is_in_doubt-clause-trusts : goal.returns-then-not-is_in_doubt-clause-trusts
returns-then-not-is_in_doubt-clause-trusts c =
    trusts_none _ _ c.new.ensures.items (sym c.is_in_doubt.ensures ∙ c.if-not-is_in_doubt.true)
