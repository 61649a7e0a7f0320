use Rattle.std.proofs.Common.{ℕ, ◌+◌, ◌++◌, List, drop}
use Rattle.administrators.specs.ToldChanges.{AreLines}
use Rattle.administrators.proofs.told_changes.change_lines.Given as goal

-- the lines so far, and lines of the changes to come, are lines of all changes
abbrev pub invariant-loop-place : goal.invariant-loop-place
invariant-loop-place l =
    (rest : List ℕ) → AreLines (l.first + l.place) (drop l.place l.told) rest → AreLines l.first l.told (l.lines.items ++ rest)
