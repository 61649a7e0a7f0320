-- The call in which a process is.
use Rattle.std.specs.Prelude.{ℕ, List, [], ◌∷◌}
use Rattle.botcore.specs.declared.event.BotEvent.{BotEvent}
use Rattle.botcore.specs.Bots.{Bot}
use Rattle.watching.specs.Acts.{Act, Opens, Creates, Began, Told, Made, Forgets, Hears, Sends, Waits}

-- A call that has not returned. A process that ends now ends in this call.
pub data Doing : Type 0 where
  Nothing : Doing
  Opening : (first second : List ℕ) → Doing
  Creating : Doing
  Telling : Bot → BotEvent → Doing
  Forgetting : Doing

abbrev pub doing : List Act → Doing
doing [] = Nothing
doing (Opens first second ∷ past) = Opening first second
doing (Creates first second last ∷ past) = Creating
doing (Began bot ∷ past) = Nothing
doing (Told bot event ∷ past) = Telling bot event
doing (Made report bot ∷ past) = Nothing
doing (Forgets bot ∷ past) = Forgetting
doing (Hears packets ∷ past) = Nothing
doing (Sends outgoing ∷ past) = Nothing
doing (Waits ∷ past) = Nothing
