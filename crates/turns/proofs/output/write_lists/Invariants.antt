use Rattle.std.proofs.Common.{◌≡◌, take}
use Rattle.std.specs.List.{flat_map}
use Rattle.streams.specs.Transfers.{Writes}
use Rattle.turns.specs.Driving.{text_of}
use Rattle.turns.proofs.output.write_lists.Given as goal

-- the lists so far are written
abbrev pub invariant-loop-lines : goal.invariant-loop-lines
invariant-loop-lines g l =
    Writes (g.S.Stream.sink l.fn.stream) (flat_map text_of (take l.lines-index l.lists)) (g.S.Stream.sink l.stream)
    × (g.S.Stream.source l.stream ≡ g.S.Stream.source l.fn.stream)
