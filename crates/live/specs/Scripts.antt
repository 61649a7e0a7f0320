-- A live script.
use Rattle.std.specs.Prelude.{ℕ, List, Option}
use Rattle.bottimers.specs.Zones.{TzText}
use Rattle.live.specs.declared.live_command.LiveCommand.{LiveCommand}

-- how many leaves the botnet has, the zone of its clocks if it is given, and which commands are done
pub record Script : Type 0 where
  pub leaves : ℕ
  pub zone : Option TzText
  pub commands : List LiveCommand
