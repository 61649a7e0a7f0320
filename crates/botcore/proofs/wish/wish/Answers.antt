use Rattle.std.proofs.Common.{arith}
use Rattle.botcore.proofs.AutomaticLemmas.{pieces_more}
use Rattle.botcore.proofs.wish.wish.Goals as goal

pub loop-piece-preserved : goal.loop-piece-preserved
loop-piece-preserved c =
    pieces_more (λ piece. piece.now) c.args.pieces.now c.loop-piece.piece-index _ _ _ (omega arith) c.loop-piece.invariant
    c.in_ok-extend_from_slice.ensures.items
