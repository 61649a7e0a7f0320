use Rattle.eggprocs.proofs.FloodLemmas.{on-nowhere}
use Rattle.eggprocs.proofs.floods.flood_nowhere.Goals as goal

pub returns : goal.returns
returns c =
    on-nowhere c.args.call.now c.args.view.now c.is_of_nicks.result c.in_ok-actions.actions c.is_of_nicks.ensures c.if-not-is_of_nicks.false
    c.in_ok-actions.ensures
