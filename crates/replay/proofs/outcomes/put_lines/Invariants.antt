use Rattle.std.proofs.Common.{◌≡◌, ◌++◌, drop}
use Rattle.std.specs.List.{flat_map}
use Rattle.replay.specs.Text.{out_line}
use Rattle.replay.proofs.outcomes.put_lines.Given as goal

abbrev pub invariant-loop-line : goal.invariant-loop-line
invariant-loop-line l = l.out.items ++ flat_map (out_line l.bot) (drop l.line-index l.lines) ≡ l.fn.out.items ++ flat_map (out_line l.bot) l.lines
