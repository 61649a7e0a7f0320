use Rattle.std.proofs.Common.{◌≡◌, ◌≤◌, ◌+◌, drop, length}
use Rattle.protocol.specs.Snapshots.{users_in}
use Rattle.promotion.proofs.numbers.user_count.Given as goal

-- those so far and those that are left are all of them
abbrev pub invariant-loop-record : goal.invariant-loop-record
invariant-loop-record l =
    (l.count + length (users_in (drop l.record-index l.records)) ≡ length (users_in l.records)) × (l.count ≤ l.record-index)
