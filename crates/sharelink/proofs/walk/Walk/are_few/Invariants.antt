use Rattle.std.proofs.Common.{◌≡◌, ◌+◌, ◌≤◌, length}
use Rattle.userfile.specs.declared.limits.TheConstants.{MAX_USERS, MAX_BANS}
use Rattle.protocol.specs.Snapshots.{users_in, bans_in}
use Rattle.sharelink.specs.Parts.{left}
use Rattle.sharelink.proofs.walk.Walk.are_few.Given as goal

-- those counted and those that are left are all of them
abbrev pub invariant-loop-record : goal.invariant-loop-record
invariant-loop-record l = record {
  users : l.users + length (users_in (left l.rest)) ≡ length (users_in (left l.fn.self));
  bans : l.bans + length (bans_in (left l.rest)) ≡ length (bans_in (left l.fn.self));
  few_users : l.users ≤ MAX_USERS;
  few_bans : l.bans ≤ MAX_BANS;
}

abbrev pub decreases-loop-record : goal.decreases-loop-record
decreases-loop-record l = length (left l.rest)
