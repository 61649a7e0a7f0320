use Rattle.std.proofs.Common.{◌≡◌, map, take}
use Rattle.script.specs.Reading.{said}
use Rattle.script.specs.Outcomes.{so_far}
use Rattle.script.proofs.reading.script_of.Given as goal

abbrev pub invariant-loop-place : goal.invariant-loop-place
invariant-loop-place l = so_far l.script ≡ said (take l.place (map (λ line. line.now) l.lines))
