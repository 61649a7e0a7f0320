use Rattle.std.proofs.Common.{◌≡◌}
use Rattle.recordtext.proofs.pieces.pieces_of.Given as goal

-- the pieces are those that came so far
abbrev pub invariant-loop-piece : goal.invariant-loop-piece
invariant-loop-piece l = l.pieces.items ≡ l.yielded
