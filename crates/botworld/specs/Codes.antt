-- The letter and number of what goes wrong in a world.
use Rattle.std.specs.Prelude.{ℕ, List, Option, None, Some, codes}
use Rattle.botworld.specs.declared.error.WorldFault.{WorldFault}
use Rattle.botworld.specs.declared.error.WorldFault.TheVariants.{BadWorld}
use Rattle.botworld.specs.declared.outcome.Outcome.{Outcome}
use Rattle.botworld.specs.declared.outcome.Outcome.TheVariants.{Report as reported, NoSuchBot, NoSuchPacket}

-- why a world is not made
abbrev pub fault_code : WorldFault → List ℕ
fault_code BadWorld = codes "O1"

-- an outcome in which no bot took part
abbrev pub outcome_code : Outcome → Option (List ℕ)
outcome_code (reported report) = None
outcome_code NoSuchBot = Some (codes "O2")
outcome_code NoSuchPacket = Some (codes "O3")
