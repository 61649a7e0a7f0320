-- The lines of a bot for the server, and the greeting that it queues when it connects.
use Rattle.outqueue.specs.Sending.{Sending, idle}
use Rattle.botcore.specs.Automatic.{greeting}
use Rattle.botcore.specs.Putting.{put_all}
use Rattle.botcore.specs.declared.config.Config.{Config}
use Rattle.botcore.specs.declared.manner.Manner.TheVariants.{InTurn}

pub record ServerLines : Type 0 where
  pub greeting : Sending
  pub current : Sending

-- the greeting of this bot, as it waits when the bot has just connected
abbrev pub greeting_lines : Config → Sending
greeting_lines config = put_all InTurn idle (greeting config)

-- nothing waits
abbrev pub silent : Config → ServerLines
silent config = record { greeting = greeting_lines config; current = idle }
