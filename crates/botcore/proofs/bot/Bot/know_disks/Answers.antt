use Rattle.std.proofs.Common.{ap, subst}
use Rattle.sharelink.specs.BotLinks.{BotEnd, MayLeave}
use Rattle.botcore.specs.Bots.{Bot}
use Rattle.botcore.proofs.bot.Bot.know_disks.Goals as goal

pub returns : goal.returns
returns g c = record {
  left = subst (λ (l : BotEnd). MayLeave l.device.first l.device.second l) (ap (λ (b : Bot). b.link) c.self.view_is)
      (λ x y one other. c.know_disks.ensures.left x y one other);
}
