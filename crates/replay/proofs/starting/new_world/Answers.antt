use Rattle.std.proofs.Common.{◌+◌}
use Rattle.replay.proofs.Startings.{AreNew-all_new, AreNew-numbered}
use Rattle.replay.proofs.starting.new_world.Goals as goal

pub new-requires : goal.new-requires
new-requires g c = record { as_made = AreNew-all_new c.args.leaves c.args.zone.now (c.args.leaves + 1) _ c.in_ok-new_bots.ensures }

pub unreachable-requires : goal.unreachable-requires
unreachable-requires g c = c.in-Err.ensures.bad_world (AreNew-numbered c.args.leaves c.args.zone.now _ c.in_ok-new_bots.ensures)
