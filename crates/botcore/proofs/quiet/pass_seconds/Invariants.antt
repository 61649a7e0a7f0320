use Rattle.std.proofs.Common.{◌≡◌, ◌+◌, ◌-◌}
use Rattle.bottimers.specs.Held.{IsAbove}
use Rattle.bottimers.specs.Seconds.{seconds_between}
use Rattle.botcore.specs.Happenings.{passed_all}
use Rattle.botcore.proofs.quiet.pass_seconds.Given as goal

-- some seconds have passed, and the rest are left
abbrev pub invariant-loop-second : goal.invariant-loop-second
invariant-loop-second l = record {
  above : IsAbove l.timers.last l.second;
  rest : passed_all l.timers (seconds_between l.second l.last) ≡ passed_all l.fn.timers (seconds_between l.first l.last);
}

abbrev pub decreases-loop-second : goal.decreases-loop-second
decreases-loop-second l = l.last + 1 - l.second
