use Rattle.std.proofs.Common.{◌≡◌, ◌≤◌, take, count_by}
use Rattle.peers.specs.Crowds.{is_of}
use Rattle.peers.proofs.guests.count.Given as goal

-- those of the guests so far
abbrev pub invariant-loop-guest : goal.invariant-loop-guest
invariant-loop-guest l = record {
  few : l.count ≤ l.guest-index;
  crowd : l.count ≡ count_by (is_of l.home) (take l.guest-index l.guests);
}
