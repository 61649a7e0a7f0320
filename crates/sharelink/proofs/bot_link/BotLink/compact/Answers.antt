use Rattle.std.proofs.Common.{subst}
use Rattle.protocol.specs.HubRules.{hub_compacted}
use Rattle.sharelink.specs.LeafLinks.{compacted}
use Rattle.sharelink.specs.BotEnds.{IsNumbered}
use Rattle.sharelink.proofs.CallLaws.{hub_calls, leaf_calls}
use Rattle.sharelink.proofs.bot_link.BotLink.compact.Goals as goal
use Rattle.sharelink.proofs.bot_link.BotLink.compact.Goals.{in-Hub, in-Leaf}

pub returns-clause-row : goal.returns-clause-row
returns-clause-row g c = elim c.match-self.branch [
  | in-Hub w ↦ rw (w.result-is, w.self-inside-is, ← c.self.view_is, w.in-Hub.is)
      (hub_calls (λ how. hub_compacted w.in-Hub.hub.leaves how w.in-Hub.hub.bot) w.in-Hub.hub w.compact.new.self w.compact.result w.compact.ensures.row)
  | in-Leaf w ↦ rw (w.result-is, w.self-inside-is, ← c.self.view_is, w.in-Leaf.is)
      (leaf_calls (compacted w.in-Leaf.leaf) w.in-Leaf.leaf w.compact-in-Leaf.new.self w.compact-in-Leaf.result
      (subst (λ e. IsNumbered e) w.in-Leaf.is c.self.invariant) w.compact-in-Leaf.ensures.row)
]
