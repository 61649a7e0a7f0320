use Rattle.std.proofs.Common.{◌≡◌, ◌-◌, [], length}
use Rattle.usercodec.specs.Records.{entry_at, items_at}
use Rattle.usercodec.specs.Users.{entries_of}
use Rattle.usercodec.proofs.user_fields.counted_entries.Given as goal

-- those so far and those that are left are all of them
abbrev pub invariant-loop : goal.invariant-loop
invariant-loop l = record {
  read : items_at entry_at (l.count - l.counter) (entries_of l.entries.items) l.reader ≡ items_at entry_at l.count [] l.fn.reader;
  so_many : length l.entries.items ≡ l.counter;
}
