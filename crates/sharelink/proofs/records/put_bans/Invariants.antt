use Rattle.std.proofs.Common.{◌≡◌, ◌++◌, drop}
use Rattle.protocol.specs.Snapshots.{ban_items}
use Rattle.sharelink.proofs.records.put_bans.Given as goal

-- those so far and those that are left are all of them
abbrev pub invariant-loop-place : goal.invariant-loop-place
invariant-loop-place l = l.items.items ++ ban_items (drop l.place l.userfile.bans) ≡ l.fn.items.items ++ ban_items l.userfile.bans
