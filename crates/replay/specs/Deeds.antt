-- What a script does, one thing after another, and what that prints.
use Rattle.std.specs.Prelude.{ℕ, List, [], ◌∷◌, ◌++◌, map}
use Rattle.std.specs.List.{flat_map}
use Rattle.script.specs.declared.command.Command.{Command}
use Rattle.script.specs.declared.command.Command.TheVariants.{Steps, Show}
use Rattle.botworld.specs.declared.step.Step.{Step}
use Rattle.botworld.specs.Net.{Net, shown_version, shown_records}
use Rattle.botworld.specs.Network.{State}
use Rattle.botworld.specs.Standing.{Moment}
use Rattle.recordtext.specs.Text.{shown_text}
use Rattle.replay.specs.Text.{outcome_text}

-- the network makes a step, or a bot is shown
pub data Deed : Type 0 where
  Makes : (step : Step) → Deed
  Shows : (bot : ℕ) → Deed

abbrev pub command_deeds : Command → List Deed
command_deeds (Steps steps) = map Makes steps
command_deeds (Show bot) = Shows bot ∷ []

abbrev pub deeds_of : List Command → List Deed
deeds_of commands = flat_map command_deeds commands

-- the steps among them
abbrev pub steps_in : List Deed → List Step
steps_in [] = []
steps_in (Makes step ∷ deeds) = step ∷ steps_in deeds
steps_in (Shows bot ∷ deeds) = steps_in deeds

-- a step prints its calls, the packets that it sent, its faults and how it ended
abbrev pub moment_text : Moment → List ℕ
moment_text m = outcome_text m.after.net.packets m.outcome

-- a show prints a bot's version and records
abbrev pub net_text : Net → ℕ → List ℕ
net_text w bot = shown_text bot (shown_version w bot) (shown_records w bot)

-- The text of deeds, given the moments of their steps in order: a show prints the network as the step before it left
-- it, or as it was at first.
abbrev pub deeds_text : State → List Deed → List Moment → List ℕ
deeds_text s [] moments = []
deeds_text s (Shows bot ∷ deeds) moments = net_text s.net bot ++ deeds_text s deeds moments
deeds_text s (Makes step ∷ deeds) [] = []
deeds_text s (Makes step ∷ deeds) (m ∷ ms) = moment_text m ++ deeds_text m.after deeds ms
