use Rattle.std.proofs.Common.{◌≡◌, ◌≤◌, ◌+◌, ◌++◌, length, vec_len, vec_capacity, count_by}
use Rattle.peers.specs.Picking.{is_hello, picked, said_by}
use Rattle.peers.proofs.picking.picked.Given as goal

-- what is kept so far, and what is kept of the rest, are what is kept of all
abbrev pub invariant-loop-packet : goal.invariant-loop-packet
invariant-loop-packet l = record {
  all : l.kept.items ++ picked l.may l.said l.rest.items ≡ picked l.may l.fn.said l.fn.packets.items;
  said : said_by l.said l.rest.items ≡ said_by l.fn.said l.fn.packets.items;
  hellos : l.hellos ≡ count_by is_hello l.rest.items;
  left : l._packet + length l.rest.items ≡ length l.fn.packets.items;
  few : vec_len l.kept ≤ l._packet;
  room : length l.fn.packets.items ≤ vec_capacity l.kept;
}
