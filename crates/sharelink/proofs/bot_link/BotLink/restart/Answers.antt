use Rattle.std.proofs.Common.{subst}
use Rattle.sharelink.specs.BotEnds.{IsNumbered}
use Rattle.sharelink.proofs.CallLaws.{hub_restarts, leaf_restarts}
use Rattle.sharelink.proofs.bot_link.BotLink.restart.Goals as goal
use Rattle.sharelink.proofs.bot_link.BotLink.restart.Goals.{in-Hub, in-Leaf}

pub returns-clause-row : goal.returns-clause-row
returns-clause-row g c = elim c.match-self.branch [
  | in-Hub w ↦ rw (w.result-is, w.self-inside-is, ← c.self.view_is, w.in-Hub.is)
      (hub_restarts w.in-Hub.hub w.restart.new.self w.restart.result w.restart.ensures.row)
  | in-Leaf w ↦ rw (w.result-is, w.self-inside-is, ← c.self.view_is, w.in-Leaf.is)
      (leaf_restarts w.in-Leaf.leaf w.restart-in-Leaf.new.self w.restart-in-Leaf.result
      (subst (λ e. IsNumbered e) w.in-Leaf.is c.self.invariant) w.restart-in-Leaf.ensures.row)
]
