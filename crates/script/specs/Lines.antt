-- The lines that a script makes a bot read.
use Rattle.std.specs.Prelude.{ℕ, List, [], ◌∷◌, ◌++◌, map}
use Rattle.ircline.specs.declared.line.Line.{Line as read_line}
use Rattle.ircline.specs.Stream.{lines_of}
use Rattle.botcore.specs.declared.event.BotEvent.TheVariants.{Line}
use Rattle.botworld.specs.declared.step.Step.{Step}
use Rattle.botworld.specs.declared.step.Step.TheVariants.{At}

-- a bot reads a line
abbrev pub line_step : ℕ → read_line → Step
line_step bot line = At bot (Line line)

-- Each line of the text, with a line feed after the text, is a step. A carriage return in the text ends a line, and a
-- text of carriage returns alone has no line.
abbrev pub line_steps : ℕ → List ℕ → List Step
line_steps bot text = map (line_step bot) (lines_of (text ++ 10 ∷ []))
