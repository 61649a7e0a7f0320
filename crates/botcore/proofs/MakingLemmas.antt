-- A bot that is made after request 0 is a new bot.
use Rattle.std.proofs.Common.{◌∙◌, Result, Ok, Err, ap}
use Rattle.disks.specs.State.{State}
use Rattle.sharelink.proofs.CreateLaws.{bot_end_after-0}
use Rattle.botcore.specs.declared.config.Config.{Config}
use Rattle.botcore.specs.declared.making.UnopenedBot.{UnopenedBot}
use Rattle.botcore.specs.Bots.{Bot, begun}
use Rattle.botcore.specs.Making.{Makes, MakesAfter}

pub makes-after-0 : {D : Type 0} (state : D → State) (config : Config) (first second : D) (result : Result Bot (UnopenedBot D))
    → MakesAfter state config first second 0 result → Makes state config first second result
makes-after-0 state config first second (Ok bot) made =
    (made.0, made.1 ∙ ap (begun config) (bot_end_after-0 config.number config.leaves bot.link.device))
makes-after-0 state config first second (Err returned) made = made
