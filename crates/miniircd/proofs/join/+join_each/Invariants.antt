use Rattle.std.proofs.Common.{length}
use Rattle.miniircd.proofs.join.+join_each.Given as goal

-- there are fewer names each time
abbrev pub decreases-join_each : goal.decreases-join_each
decreases-join_each l = length l.names.now
