use Rattle.std.proofs.Common.{◌≡◌, map}
use Rattle.script.specs.Lines.{line_step}
use Rattle.script.proofs.lines.steps_of.Given as goal

abbrev pub invariant-loop-line : goal.invariant-loop-line
invariant-loop-line l = l.steps.items ≡ map (line_step l.bot) l.yielded
