use Rattle.std.proofs.Common.{◌≡◌, ◌≤◌, ◌+◌, length}
use Rattle.std.specs.Vec.{vec_len, vec_capacity}
use Rattle.std.specs.Vec.Iter.{into_iter_items, into_iter_len}
use Rattle.chanstate.specs.Channels.{put_each_last}
use Rattle.chanstate.proofs.channels.put_each.Given as goal

-- those that are left, put last behind those so far, are put last behind all before; there is room for them
abbrev pub invariant-loop-channel : goal.invariant-loop-channel
invariant-loop-channel l = record {
  len : into_iter_len l.channel-iterator ≡ length (into_iter_items l.channel-iterator);
  room : vec_len l.items + length (into_iter_items l.channel-iterator) ≤ vec_capacity l.items;
  put : put_each_last l.mapping (into_iter_items l.channel-iterator) l.items.items ≡ put_each_last l.mapping (into_iter_items l.initial.channel-iterator) l.initial.items.items;
}
