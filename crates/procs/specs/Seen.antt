-- What a proc sees of its bot.
use Rattle.std.specs.Prelude.{ℕ, Option}
use Rattle.userfile.specs.Records.{Records}
use Rattle.chanstate.specs.declared.state.ChanState.{ChanState}

-- what the code of an answer can depend on: the records of people and bans, and the channels
pub record Sight : Type 0 where
  pub records : Records
  pub channels : ChanState

-- all that a proc sees: also the second of the bot's clock, once it has one
pub record Seen : Type 0 where
  pub sight : Sight
  pub second : Option ℕ
