use Rattle.std.proofs.Common.{◌≡◌, length}
use Rattle.streams.proofs.WriteLemmas.{IsWritten}
use Rattle.streams.proofs.writing.write_all.Given as goal

-- all but the rest is written
abbrev pub invariant-loop-rest : goal.invariant-loop-rest
invariant-loop-rest g l = IsWritten (g.S.Stream.sink l.fn.stream) l.bytes l.rest (g.S.Stream.sink l.stream)
    × (g.S.Stream.source l.stream ≡ g.S.Stream.source l.fn.stream)

abbrev pub decreases-loop-rest : goal.decreases-loop-rest
decreases-loop-rest g l = length l.rest
