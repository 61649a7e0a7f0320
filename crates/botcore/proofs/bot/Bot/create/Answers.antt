use Rattle.botcore.proofs.MakingLemmas.{makes-after-0}
use Rattle.botcore.proofs.bot.Bot.create.Goals as goal

pub returns : goal.returns
returns g c = record {
  made = makes-after-0 g.D.Disk.state c.args.config c.args.first c.args.second c.create_after.result c.create_after.ensures.made;
}
