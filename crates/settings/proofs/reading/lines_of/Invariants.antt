use Rattle.std.proofs.Common.{◌≡◌}
use Rattle.settings.proofs.reading.lines_of.Given as goal

-- the lines are those that came so far
abbrev pub invariant-loop-line : goal.invariant-loop-line
invariant-loop-line l = l.lines.items ≡ l.yielded
