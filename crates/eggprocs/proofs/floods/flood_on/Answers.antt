use Rattle.eggprocs.proofs.FloodLemmas.{on-op}
use Rattle.eggprocs.proofs.floods.flood_on.Goals as goal

pub returns : goal.returns
returns c =
    on-op c.args.channel.now c.args.call.now c.in_ok-on.on c.args.view.now c.in_ok-wanted.wanted c.in_ok-actions.actions c.is_op_of.result
    c.is_op_of.ensures c.if-not-is_op_of.false c.in_ok-on.ensures c.in_ok-wanted.ensures c.in_ok-actions.ensures
