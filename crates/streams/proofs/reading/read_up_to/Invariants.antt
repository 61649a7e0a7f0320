use Rattle.std.proofs.Common.{◌≡◌, ◌-◌, ◌≤◌, ℕ, length}
use Rattle.streams.specs.Transfers.{Reads}
use Rattle.streams.proofs.reading.read_up_to.Given as goal

-- the bytes so far are read
abbrev pub invariant-loop-stream : goal.invariant-loop-stream
invariant-loop-stream g l = (length l.bytes.items ≤ l.most)
    × ((count : ℕ) × Reads count (g.S.Stream.source l.fn.stream) l.bytes.items (g.S.Stream.source l.stream))
    × (g.S.Stream.sink l.stream ≡ g.S.Stream.sink l.fn.stream)

abbrev pub decreases-loop-stream : goal.decreases-loop-stream
decreases-loop-stream g l = l.most - length l.bytes.items
