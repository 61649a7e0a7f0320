use Rattle.std.proofs.Common.{◌∙◌, ap, arith}
use Rattle.procs.specs.declared.limits.TheConstants.{MAX_ACTIONS}
use Rattle.eggprocs.specs.Floods.{flood_on}
use Rattle.eggprocs.proofs.EveryoneLemmas.{first-lists-more, first-lists-all}
use Rattle.eggprocs.proofs.floods.floods_on.Goals as goal

pub loop-name-preserved : goal.loop-name-preserved
loop-name-preserved c =
    first-lists-more MAX_ACTIONS (λ channel. flood_on channel c.args.call.now c.args.view.now) c.args.names.now c.loop-name.name-index c.name-item.result
    _ c.loop-name.actions _ (omega arith) c.name-item.is
    (c.in_ok-more.ensures ∙ ap (λ channel. flood_on channel c.args.call.now c.args.view.now) c.as_bytes.ensures) c.loop-name.invariant
    c.in_ok-actions.ensures

pub returns : goal.returns
returns c =
    first-lists-all MAX_ACTIONS (λ channel. flood_on channel c.args.call.now c.args.view.now) c.args.names.now c.loop-name.name-index c.loop-name.actions
    (omega (arith, c.loop-name-test.false)) c.loop-name.invariant
