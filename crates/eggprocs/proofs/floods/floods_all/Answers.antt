use Rattle.eggprocs.proofs.FloodLemmas.{on-all}
use Rattle.eggprocs.proofs.floods.floods_all.Goals as goal

pub returns : goal.returns
returns c =
    on-all c.args.call.now c.args.view.now c.channels-channels.result.now c.own_nick.result.now _ c.as_slice.result.now c.in_ok-actions.actions
    c.channels-channels.ensures c.own_nick.ensures c.in_ok-names.ensures.names c.as_slice.ensures c.in_ok-actions.ensures
