use Rattle.std.proofs.Common.{◌∙◌, ◌++◌, List, take, ap}
use Rattle.procs.specs.declared.action.Action.{Action}
use Rattle.procs.specs.declared.limits.TheConstants.{MAX_ACTIONS}
use Rattle.eggprocs.specs.Ends.{lifts_on}
use Rattle.eggprocs.proofs.EndLemmas.{put-two, ends-are}
use Rattle.eggprocs.proofs.ends.push_ends.Goals as goal

pub returns : goal.returns
returns c = λ before so_far.
    put-two MAX_ACTIONS before c.args.actions.now c.push_if_room.new.actions c.push_if_room-2.new.actions c.in_ok-lift.lift c.in_ok-delete.delete so_far
    c.in_ok-push_if_room.ensures.room c.in_ok-push_if_room.ensures.full c.in_ok-push_if_room-2.ensures.room c.in_ok-push_if_room-2.ensures.full
    ∙ ap (λ (ends : List Action). take MAX_ACTIONS (before ++ ends))
    (ends-are c.args.second c.args.view.now c.args.ban.now c.in_ok-lifts.lifts c.is_deleted.result c.has_ended.result c.in_ok-lift.lift c.in_ok-delete.delete
    c.has_ended.ensures c.if-not-has_ended.false (c.in_ok-lifts.ensures ∙ ap (λ channel. lifts_on channel c.args.view.now) c.as_bytes.ensures) c.is_deleted.ensures c.in_ok-lift.ensures c.in_ok-delete.ensures)
