use Rattle.std.proofs.Common.{◌≡◌, ◌++◌, drop}
use Rattle.protocol.specs.Snapshots.{user_items}
use Rattle.sharelink.proofs.records.put_users.Given as goal

-- those so far and those that are left are all of them
abbrev pub invariant-loop-place : goal.invariant-loop-place
invariant-loop-place l = l.items.items ++ user_items (drop l.place l.userfile.users) ≡ l.fn.items.items ++ user_items l.userfile.users
