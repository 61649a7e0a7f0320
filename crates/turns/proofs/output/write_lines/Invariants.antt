use Rattle.std.proofs.Common.{◌≡◌, take}
use Rattle.streams.specs.Transfers.{Writes}
use Rattle.turns.specs.Driving.{text_of}
use Rattle.turns.proofs.output.write_lines.Given as goal

-- the lines so far are written
abbrev pub invariant-loop-line : goal.invariant-loop-line
invariant-loop-line g l =
    Writes (g.S.Stream.sink l.fn.stream) (text_of (take l.line-index l.lines)) (g.S.Stream.sink l.stream)
    × (g.S.Stream.source l.stream ≡ g.S.Stream.source l.fn.stream)
