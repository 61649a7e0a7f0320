use Rattle.std.proofs.Common.{arith}
use Rattle.procs.specs.declared.limits.TheConstants.{MAX_ACTIONS}
use Rattle.eggprocs.specs.Keeping.{kick_for}
use Rattle.eggprocs.proofs.EveryoneLemmas.{first-given-more}
use Rattle.eggprocs.proofs.keeping.kicks_for.Goals as goal

pub loop-member-preserved : goal.loop-member-preserved
loop-member-preserved c =
    first-given-more MAX_ACTIONS (kick_for c.args.mask.now c.args.call.now c.args.view.now) c.args.members.now c.loop-member.member-index c.member-item.result
    _ c.loop-member.actions _ (omega arith) c.member-item.is c.in_ok-wish.ensures c.loop-member.invariant
    c.in_ok-push_if_room.ensures.room c.in_ok-push_if_room.ensures.full
