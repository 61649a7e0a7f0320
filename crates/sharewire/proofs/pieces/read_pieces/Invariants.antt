use Rattle.std.proofs.Common.{◌≡◌, ℕ, List, take}
use Rattle.std.specs.List.{flat_map}
use Rattle.sharewire.specs.Streams.{Tells, fault_in}
use Rattle.sharewire.proofs.pieces.read_pieces.Given as goal

-- the stream so far has told the packets, and ends as the reader does
abbrev pub invariant-loop-piece : goal.invariant-loop-piece
invariant-loop-piece l = record {
  told : Tells (flat_map (λ (piece : List ℕ). piece) (take l.piece-index l.pieces)) l.packets.items l.reader;
  fault : l.fault ≡ fault_in l.reader;
}
