-- What waits for the server in a bot that sends at once.
use Rattle.std.specs.Prelude.{◌≡◌, true}
use Rattle.outqueue.specs.Shares.{StandOnce, IsFair}
use Rattle.botcore.specs.Bots.{Bot}

-- the bot sends at once; no two lines of its mode queue are equal, and no target has more than its share of the other
-- queues
pub record SharesLines (bot : Bot) : Type 0 where
  pub at_once : bot.config.sends_at_once ≡ true
  pub once : StandOnce bot.queues.mode
  pub fair : IsFair bot.queues
