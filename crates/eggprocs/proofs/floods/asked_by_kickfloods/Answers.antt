use Rattle.eggprocs.proofs.FloodLemmas.{on-place}
use Rattle.eggprocs.proofs.floods.asked_by_kickfloods.Goals as goal

pub returns : goal.returns
returns c =
    on-place c.args.call.now c.args.view.now c.is_flood.result c.is_nowhere.result c.flood_place.result.now c.in_ok-actions.actions c.is_flood.ensures
    c.if-not-is_flood.false c.is_nowhere.ensures c.if-is_nowhere.false c.flood_place.ensures c.in_ok-actions.ensures
