use Rattle.std.proofs.Common.{ap, subst}
use Rattle.sharelink.specs.BotLinks.{BotEnd, AreOf}
use Rattle.botcore.specs.Bots.{Bot}
use Rattle.botcore.proofs.bot.Bot.into_disks.Goals as goal

pub returns : goal.returns
returns g c = record {
  left = λ x y one other. subst (λ (l : BotEnd). AreOf l x y) (ap (λ (b : Bot). b.link) c.self.view_is)
      (c.into_disks.ensures.left x y one other);
}
