use Rattle.std.proofs.Common.{inl, refl}
use Rattle.botjournal.specs.Contents.{meaning}
use Rattle.sharelink.specs.BotOpening.{AreBots, IsLeft}
use Rattle.botcore.proofs.MomentLemmas.{still_leaves}
use Rattle.botcore.proofs.bot.Bot.open.Goals as goal

pub returns-in-Err-clause-any_moment : goal.returns-in-Err-clause-any_moment
returns-in-Err-clause-any_moment g c =
    let first = g.D.Disk.state c.args.first in
    let second = g.D.Disk.state c.args.second in
    still_leaves first second (IsLeft c.args.config.number c.args.config.leaves (meaning first.seen second.seen))
    c.requires.first_settled c.requires.second_settled (inl refl)

pub returns-in-Err-clause-bots : goal.returns-in-Err-clause-bots
returns-in-Err-clause-bots g c = λ own.
    still_leaves (g.D.Disk.state c.args.first) (g.D.Disk.state c.args.second) (AreBots c.args.config.number c.args.config.leaves)
    c.requires.first_settled c.requires.second_settled own
