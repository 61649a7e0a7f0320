use Rattle.std.proofs.Common.{◌≡◌, ◌-◌, [], length}
use Rattle.usercodec.specs.Records.{mask_at, items_at}
use Rattle.usercodec.specs.Users.{texts_of}
use Rattle.usercodec.proofs.user_fields.counted_masks.Given as goal

-- those so far and those that are left are all of them
abbrev pub invariant-loop : goal.invariant-loop
invariant-loop l = record {
  read : items_at mask_at (l.count - l.counter) (texts_of l.masks.items) l.reader ≡ items_at mask_at l.count [] l.fn.reader;
  so_many : length l.masks.items ≡ l.counter;
}
