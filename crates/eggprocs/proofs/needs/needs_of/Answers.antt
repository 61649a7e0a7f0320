use Rattle.std.proofs.Common.{◌∙◌, ap, arith}
use Rattle.procs.specs.declared.limits.TheConstants.{MAX_ACTIONS}
use Rattle.eggprocs.specs.Needs.{need_on}
use Rattle.eggprocs.proofs.EveryoneLemmas.{first-given-more}
use Rattle.eggprocs.proofs.needs.needs_of.Goals as goal

pub loop-name-preserved : goal.loop-name-preserved
loop-name-preserved c =
    first-given-more MAX_ACTIONS (need_on c.args.view.now) c.args.names.now c.loop-name.name-index c.name-item.result
    _ c.loop-name.actions _ (omega arith) c.name-item.is (c.in_ok-need.ensures ∙ ap (need_on c.args.view.now) c.as_bytes.ensures) c.loop-name.invariant
    c.in_ok-push_if_room.ensures.room c.in_ok-push_if_room.ensures.full
