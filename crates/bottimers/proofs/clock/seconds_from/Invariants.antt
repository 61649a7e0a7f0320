use Rattle.std.proofs.Common.{◌≡◌, ◌≤◌, ◌+◌, ◌-◌, vec_capacity}
use Rattle.std.specs.List.{range_with_len}
use Rattle.bottimers.proofs.clock.seconds_from.Given as goal

-- the seconds so far, and room for all
abbrev pub invariant-loop-second : goal.invariant-loop-second
invariant-loop-second l =
    record {
      items : l.seconds.items ≡ range_with_len l.first (l.second - l.first);
      room : l.last + 1 - l.first ≤ vec_capacity l.seconds;
    }
