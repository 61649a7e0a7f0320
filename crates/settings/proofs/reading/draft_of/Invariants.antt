use Rattle.std.proofs.Common.{◌≡◌, ◌+◌, map, drop}
use Rattle.settings.specs.Reading.{lines_read, read_from}
use Rattle.settings.proofs.reading.draft_of.Given as goal

abbrev pub invariant-loop-place : goal.invariant-loop-place
invariant-loop-place l =
    read_from l.draft (l.place + 1) (drop l.place (map (λ line. line.now) l.lines)) ≡ lines_read (map (λ line. line.now) l.lines)
