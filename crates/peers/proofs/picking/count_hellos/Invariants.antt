use Rattle.std.proofs.Common.{◌≡◌, ◌≤◌, take, count_by}
use Rattle.peers.specs.Picking.{is_hello}
use Rattle.peers.proofs.picking.count_hellos.Given as goal

-- those of the packets so far
abbrev pub invariant-loop-packet : goal.invariant-loop-packet
invariant-loop-packet l = record {
  few : l.count ≤ l.packet-index;
  hellos : l.count ≡ count_by is_hello (take l.packet-index l.packets);
}
