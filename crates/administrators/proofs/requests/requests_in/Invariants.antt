use Rattle.std.proofs.Common.{◌≡◌, ◌≤◌, take, count_by}
use Rattle.administrators.specs.Askers.{is_request}
use Rattle.administrators.proofs.requests.requests_in.Given as goal

-- those of the packets so far
abbrev pub invariant-loop-outgoing : goal.invariant-loop-outgoing
invariant-loop-outgoing l = record {
  few : l.count ≤ l.outgoing-index;
  asks : l.count ≡ count_by is_request (take l.outgoing-index l.packets);
}
