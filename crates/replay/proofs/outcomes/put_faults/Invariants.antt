use Rattle.std.proofs.Common.{◌≡◌, ◌++◌, drop}
use Rattle.std.specs.List.{flat_map}
use Rattle.replay.specs.Text.{fault_line}
use Rattle.replay.proofs.outcomes.put_faults.Given as goal

abbrev pub invariant-loop-fault : goal.invariant-loop-fault
invariant-loop-fault l = l.out.items ++ flat_map (fault_line l.bot) (drop l.fault-index l.faults) ≡ l.fn.out.items ++ flat_map (fault_line l.bot) l.faults
