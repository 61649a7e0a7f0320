use Rattle.std.proofs.Common.{rules, ◌∙◌, List, ap, subst, sym}
use Rattle.std.specs.List.{AllByRecursion}
use Rattle.std.proofs.lemmas.Fn.{filter_same}
use Rattle.sharelink.specs.Shapes.{HasGoodRecords}
use Rattle.sharewire.specs.declared.packet.Packet.{Packet}
use Rattle.peers.specs.Tells.{granted}
use Rattle.peers.proofs.PickingLemmas.{granted_good}
use Rattle.upkeep.proofs.hand_over.taken_requests.Goals as goal

pub returns-then-hands_over-clause-packets : goal.returns-then-hands_over-clause-packets
returns-then-hands_over-clause-packets c =
    filter_same _ _ _ (λ x b f' k. search rules) _ _ c.retain.ensures.filtered
    ∙ ap (λ b. granted b c.args.packets.items) (sym c.if-hands_over.true)

pub returns-then-hands_over-clause-good : goal.returns-then-hands_over-clause-good
returns-then-hands_over-clause-good c =
    subst (λ (p : List Packet). AllByRecursion HasGoodRecords p)
    (sym (filter_same _ _ _ (λ x b f' k. search rules) _ _ c.retain.ensures.filtered
    ∙ ap (λ b. granted b c.args.packets.items) (sym c.if-hands_over.true)))
    (granted_good c.args.hands_over c.args.packets.items c.requires.good)
