use Rattle.std.proofs.Common.{◌≡◌, ◌-◌, ◌++◌}
use Rattle.replay.specs.Text.{sent_lines}
use Rattle.replay.proofs.outcomes.put_packets.Given as goal

abbrev pub invariant-loop-number : goal.invariant-loop-number
invariant-loop-number g l = l.out.items ++ sent_lines l.world.packets l.number (l.after - l.number) ≡ l.fn.out.items ++ sent_lines l.world.packets l.first l.count
