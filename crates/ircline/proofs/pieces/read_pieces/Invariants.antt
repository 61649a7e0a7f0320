use Rattle.std.proofs.Common.{◌≡◌, ℕ, List, take}
use Rattle.std.specs.List.{flat_map}
use Rattle.ircline.specs.Stream.{lines_of, held_of}
use Rattle.ircline.proofs.pieces.read_pieces.Given as goal

-- the stream so far has given its lines, and its last run is held
abbrev pub invariant-loop-piece : goal.invariant-loop-piece
invariant-loop-piece l = record {
  lines : l.lines.items ≡ lines_of (flat_map (λ (piece : List ℕ). piece) (take l.piece-index l.pieces));
  held : l.reader ≡ held_of (flat_map (λ (piece : List ℕ). piece) (take l.piece-index l.pieces));
}
