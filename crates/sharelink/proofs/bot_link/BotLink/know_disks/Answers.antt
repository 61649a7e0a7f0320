use Rattle.std.proofs.Common.{◌∙◌, ap, sym, subst}
use Rattle.sharelink.specs.BotLinks.{BotEnd, MayLeave}
use Rattle.sharelink.specs.BotEnds.{bot_of, IsNumbered}
use Rattle.sharelink.proofs.LeftLaws.{hub_left, leaf_left}
use Rattle.sharelink.proofs.bot_link.BotLink.know_disks.Goals as goal

pub returns-in-Hub : goal.returns-in-Hub
returns-in-Hub g c = record {
  left = subst (λ (l : BotEnd). MayLeave l.device.first l.device.second l) (ap bot_of (sym c.in-Hub.is) ∙ c.self.view_is)
      (λ x y one other. hub_left c.in-Hub.hub x y (c.know_disks.ensures.left x y one other));
}

pub returns-in-Leaf : goal.returns-in-Leaf
returns-in-Leaf g c = record {
  left = subst (λ (l : BotEnd). MayLeave l.device.first l.device.second l) (ap bot_of (sym c.in-Leaf.is) ∙ c.self.view_is)
      (λ x y one other. leaf_left c.in-Leaf.leaf x y (subst (λ e. IsNumbered e) c.in-Leaf.is c.self.invariant)
      (c.know_disks-in-Leaf.ensures.left x y one other));
}
