use Rattle.std.proofs.Common.{◌≡◌, ◌≤◌, ◌+◌, ◌-◌}
use Rattle.std.specs.List.{list_all}
use Rattle.bottimers.specs.Seconds.{seconds_between}
use Rattle.botcore.specs.Quiet.{is_still}
use Rattle.botcore.proofs.quiet.are_still.Given as goal

-- the seconds so far are still, and the rest are left
abbrev pub invariant-loop-second : goal.invariant-loop-second
invariant-loop-second l = record {
  after : l.first ≤ l.second;
  rest : list_all (is_still l.timers.timers) (seconds_between l.second l.last) ≡ list_all (is_still l.timers.timers) (seconds_between l.first l.last);
}

abbrev pub decreases-loop-second : goal.decreases-loop-second
decreases-loop-second l = l.last + 1 - l.second
