use Rattle.std.proofs.Common.{arith}
use Rattle.procs.specs.declared.limits.TheConstants.{MAX_ACTIONS}
use Rattle.eggprocs.specs.Floods.{flood_kick}
use Rattle.eggprocs.proofs.EveryoneLemmas.{first-given-more}
use Rattle.eggprocs.proofs.floods.flood_kicks.Goals as goal

pub loop-member-preserved : goal.loop-member-preserved
loop-member-preserved c =
    first-given-more MAX_ACTIONS (flood_kick c.args.on.now c.args.call.now c.args.view.now) c.args.members.now c.loop-member.member-index c.member-item.result
    _ c.loop-member.actions _ (omega arith) c.member-item.is c.in_ok-wish.ensures c.loop-member.invariant
    c.in_ok-push_if_room.ensures.room c.in_ok-push_if_room.ensures.full
