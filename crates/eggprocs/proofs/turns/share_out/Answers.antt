use Rattle.std.proofs.Common.{arith, sym}
use Rattle.eggprocs.proofs.TurnLemmas.{share-looks}
use Rattle.eggprocs.proofs.turns.share_out.Goals as goal

pub returns : goal.returns
returns c =
    share-looks c.args.duty c.in_ok-turn.turn c.args.call.now c.args.view.now c.args.wanted c.as_slice.result.now c.in_ok-actions.actions c.in_ok-turn.ensures
    (grind (arith, c.if-turn-eq0.false)) (sym c.if-not-has_look.ensures.look) c.as_slice.ensures.actions c.in_ok-actions.ensures
