use Rattle.std.proofs.Common.{◌≡◌, true, length, take}
use Rattle.indexmap.specs.IndexMap.{index_map_len}
use Rattle.chanstate.specs.Seats.{AreIndexed, taken}
use Rattle.chanstate.proofs.SeatLemmas.{IsCounted}
use Rattle.chanstate.proofs.room.index_taken.Given as goal

-- the index has each member so far, if it has as many entries as there are members; and it has, if the seats are indexed
abbrev pub invariant-loop-place : goal.invariant-loop-place
invariant-loop-place l = record {
  counted : IsCounted l.seats.mapping (taken (take l.place-index l.seats.places.items)) (index_map_len l.index) l.index.entries;
  all : l.seats.indexed ≡ true → AreIndexed l.seats.mapping (taken (take l.place-index l.seats.places.items)) l.index.entries
      × (index_map_len l.index ≡ length (taken (take l.place-index l.seats.places.items)));
}
