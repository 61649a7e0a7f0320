-- The steps of a turn as deeds.
use Rattle.std.specs.Prelude.{◌≡◌, ℕ, List, [], ◌∷◌, slice_get, Some}
use Rattle.procs.specs.Promises.{Promised}
use Rattle.botcore.specs.declared.event.BotEvent.{BotEvent}
use Rattle.botcore.specs.declared.report.Report.{Report}
use Rattle.botcore.specs.Bots.{Bot}
use Rattle.botworld.specs.declared.sent.Sent.{Sent}
use Rattle.processes.specs.Deeds.{Runs, Net, Deed, Made, Died, Opened, Unopened, Replaced, WasTold, Run, net_after}

-- reports have sent all packets among these events
abbrev pub AreTold : List Sent → ℕ → List BotEvent → Type 0
AreTold packets bot [] = Unit {0}
AreTold packets bot (event ∷ events) = WasTold packets bot event × AreTold packets bot events

-- this deed is a step of this bot, over a store of these names, with this event and this report
abbrev pub IsStep : ℕ → List (List ℕ) → BotEvent → Report → Deed → Type 0
IsStep bot names event report (Made at step) =
    (at ≡ bot) × (step.names ≡ names) × (step.event ≡ event) × (step.report ≡ report)
IsStep bot names event report (Died at was doing first second) = ⊥
IsStep bot names event report (Opened at after) = ⊥
IsStep bot names event report (Unopened at first second) = ⊥
IsStep bot names event report (Replaced leaf after) = ⊥

-- each deed is such a step, with the event and the report at its place
abbrev pub AreSteps : ℕ → List (List ℕ) → List BotEvent → List Report → List Deed → Type 0
AreSteps bot names [] [] [] = Unit {0}
AreSteps bot names [] [] (deed ∷ deeds) = ⊥
AreSteps bot names [] (report ∷ reports) deeds = ⊥
AreSteps bot names (event ∷ events) [] deeds = ⊥
AreSteps bot names (event ∷ events) (report ∷ reports) [] = ⊥
AreSteps bot names (event ∷ events) (report ∷ reports) (deed ∷ deeds) =
    IsStep bot names event report deed × AreSteps bot names events reports deeds

-- These steps are deeds that may happen, one after another. After them the bot runs as it is after its steps.
pub record AreDeeds (promised : Promised) (w : Net) (bot : ℕ) (names : List (List ℕ)) (events : List BotEvent)
    (reports : List Report) (new : Bot) : Type 0 where
  pub deeds : List Deed
  pub run : Run promised w deeds
  pub steps : AreSteps bot names events reports deeds
  pub runs : slice_get (net_after w deeds).processes bot ≡ Some (Runs new)
