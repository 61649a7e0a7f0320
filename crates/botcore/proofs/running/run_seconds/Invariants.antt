use Rattle.std.proofs.Common.{length}
use Rattle.botcore.proofs.RunningLemmas.{IsRunning}
use Rattle.botcore.proofs.running.run_seconds.Given as goal

-- some of the seconds have run, and the rest are left
abbrev pub invariant-loop-second : goal.invariant-loop-second
invariant-loop-second l = IsRunning l.fn.config.zone l.fn.timers l.fn.seconds l.timers l.rest l.occasions.items

abbrev pub decreases-loop-second : goal.decreases-loop-second
decreases-loop-second l = length l.rest
