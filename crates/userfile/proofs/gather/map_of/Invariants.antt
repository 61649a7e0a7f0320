use Rattle.std.proofs.Common.{◌≡◌, ◌++◌}
use Rattle.std.specs.Vec.Iter.{into_iter_items}
use Rattle.indexmap.specs.IndexMap.{values}
use Rattle.userfile.specs.Keys.{IsKeyed}
use Rattle.userfile.proofs.gather.map_of.Given as goal

-- the users so far are in the map
abbrev pub invariant-loop-user : goal.invariant-loop-user
invariant-loop-user l = record {
  keyed : IsKeyed l.map.entries;
  made : values l.map ≡ l.yielded;
  rest : l.fn.users.items ≡ l.yielded ++ into_iter_items l.user-iterator;
}
