use Rattle.std.proofs.Common.{◌≡◌, ◌++◌, drop}
use Rattle.upkeep.specs.Flooding.{flood_lines}
use Rattle.upkeep.proofs.flooding.put_floods.Given as goal

-- the lines so far and those of the rest are all
abbrev pub invariant-loop-ignore : goal.invariant-loop-ignore
invariant-loop-ignore l =
    l.lines.items ++ flood_lines (drop l.ignore-index l.ignores) ≡ l.initial.lines.items ++ flood_lines l.ignores
