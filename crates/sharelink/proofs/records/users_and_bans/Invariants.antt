use Rattle.std.proofs.Common.{◌≡◌, ◌++◌}
use Rattle.std.specs.Vec.Iter.{into_iter_items}
use Rattle.protocol.specs.Snapshots.{users_in, bans_in}
use Rattle.sharelink.proofs.records.users_and_bans.Given as goal

-- those so far and those that are left are all of them
abbrev pub invariant-loop-item : goal.invariant-loop-item
invariant-loop-item l = record {
  users : l.users.items ++ users_in (into_iter_items l.item-iterator) ≡ users_in l.fn.items.items;
  bans : l.bans.items ++ bans_in (into_iter_items l.item-iterator) ≡ bans_in l.fn.items.items;
}
