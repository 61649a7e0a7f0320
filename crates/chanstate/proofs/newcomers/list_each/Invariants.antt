use Rattle.std.proofs.Common.{◌≡◌, ◌≤◌, ◌+◌, true, length, vec_len, vec_capacity}
use Rattle.std.specs.Map.{values_of}
use Rattle.std.specs.Vec.Iter.{into_iter_items, into_iter_len}
use Rattle.indexmap.specs.IndexMap.{spare}
use Rattle.chanstate.specs.Seats.{AreSeated, AreUnder, seated}
use Rattle.chanstate.specs.Members.{listed_each}
use Rattle.chanstate.proofs.newcomers.list_each.Given as goal

-- those who are left, listed after those so far, are listed after all before; there is room for them
abbrev pub invariant-loop-key : goal.invariant-loop-key
invariant-loop-key l = record {
  len : into_iter_len l.key-iterator ≡ length (into_iter_items l.key-iterator);
  keys : AreUnder l.initial.seats.mapping (into_iter_items l.key-iterator);
  places : vec_len l.seats.places + length (into_iter_items l.key-iterator) ≤ vec_capacity l.seats.places;
  entries : l.seats.indexed ≡ true → length (into_iter_items l.key-iterator) ≤ spare l.seats.index;
  mapping : l.seats.mapping ≡ l.initial.seats.mapping;
  indexed : AreSeated l.seats;
  listed : listed_each l.initial.seats.mapping (values_of (into_iter_items l.key-iterator)) (seated l.seats.places.items)
      ≡ listed_each l.initial.seats.mapping (values_of (into_iter_items l.initial.key-iterator)) (seated l.initial.seats.places.items);
}
