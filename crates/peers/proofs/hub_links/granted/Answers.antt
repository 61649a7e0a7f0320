use Rattle.std.proofs.Common.{rules, ◌∙◌, ap, sym}
use Rattle.std.proofs.lemmas.Fn.{filter_same}
use Rattle.peers.specs.Tells.{granted}
use Rattle.peers.proofs.hub_links.granted.Goals as goal

pub returns-then-is_in_doubt : goal.returns-then-is_in_doubt
returns-then-is_in_doubt c =
    filter_same _ _ _ (λ x b f' k. search rules) _ _ c.retain.ensures.filtered
    ∙ ap (λ b. granted b c.args.packets.items) (sym c.if-is_in_doubt.true)
