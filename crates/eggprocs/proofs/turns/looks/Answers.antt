use Rattle.std.proofs.Common.{arith}
use Rattle.procs.specs.declared.limits.TheConstants.{MAX_ACTIONS}
use Rattle.eggprocs.specs.Looks.{look_for}
use Rattle.eggprocs.proofs.EveryoneLemmas.{first-given-more}
use Rattle.eggprocs.proofs.turns.looks.Goals as goal

pub loop-action-preserved : goal.loop-action-preserved
loop-action-preserved c =
    first-given-more MAX_ACTIONS (look_for c.args.turn c.args.call.now c.args.view.now) c.args.wanted.now c.loop-action.action-index c.action-item.result
    _ c.loop-action.actions _ (omega arith) c.action-item.is c.in_ok-look.ensures c.loop-action.invariant
    c.in_ok-push_if_room.ensures.room c.in_ok-push_if_room.ensures.full
