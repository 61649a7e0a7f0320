use Rattle.std.proofs.Common.{subst}
use Rattle.protocol.specs.Packets.{from_wire}
use Rattle.protocol.specs.HubRules.{hub_received}
use Rattle.sharelink.specs.LeafLinks.{received}
use Rattle.sharelink.specs.BotEnds.{IsNumbered}
use Rattle.sharelink.proofs.CallLaws.{hub_calls, leaf_calls}
use Rattle.sharelink.proofs.bot_link.BotLink.receive.Goals as goal
use Rattle.sharelink.proofs.bot_link.BotLink.receive.Goals.{in-Hub, in-Leaf}

pub returns-clause-row : goal.returns-clause-row
returns-clause-row g c = elim c.match-self.branch [
  | in-Hub w ↦ rw (w.result-is, w.self-inside-is, ← c.self.view_is, w.in-Hub.is)
      (hub_calls (λ how. hub_received w.in-Hub.hub.leaves how w.in-Hub.hub.bot (from_wire c.args.packet.now)) w.in-Hub.hub w.receive.new.self w.receive.result w.receive.ensures.row)
  | in-Leaf w ↦ rw (w.result-is, w.self-inside-is, ← c.self.view_is, w.in-Leaf.is)
      (leaf_calls (received w.in-Leaf.leaf c.args.packet.now) w.in-Leaf.leaf w.receive-in-Leaf.new.self w.receive-in-Leaf.result
      (subst (λ e. IsNumbered e) w.in-Leaf.is c.self.invariant) w.receive-in-Leaf.ensures.row)
]
