use Rattle.std.proofs.Common.{◌∙◌, ap, sym, subst}
use Rattle.sharelink.specs.BotLinks.{BotEnd}
use Rattle.sharelink.specs.BotEnds.{bot_of, IsNumbered}
use Rattle.sharelink.specs.BotLinks.{AreOf}
use Rattle.sharelink.proofs.LeftLaws.{hub_left, leaf_left}
use Rattle.sharelink.proofs.bot_link.BotLink.into_disks.Goals as goal

pub returns-in-Hub : goal.returns-in-Hub
returns-in-Hub g c = record {
  left = λ x y one other. subst (λ (l : BotEnd). AreOf l x y) (ap bot_of (sym c.in-Hub.is) ∙ c.self.view_is)
      (hub_left c.in-Hub.hub x y
      (c.into_disks.ensures.left x y one other));
}

pub returns-in-Leaf : goal.returns-in-Leaf
returns-in-Leaf g c = record {
  left = λ x y one other. subst (λ (l : BotEnd). AreOf l x y) (ap bot_of (sym c.in-Leaf.is) ∙ c.self.view_is)
      (leaf_left c.in-Leaf.leaf x y (subst (λ e. IsNumbered e) c.in-Leaf.is c.self.invariant)
      (c.into_disks-in-Leaf.ensures.left x y one other));
}
