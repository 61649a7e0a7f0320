use Rattle.std.proofs.Common.{◌≡◌, take, map}
use Rattle.miniircd.specs.Rooms.{marked}
use Rattle.miniircd.proofs.channel_edit.marked_each.Given as goal

-- the members so far are marked
abbrev pub invariant-loop-member : goal.invariant-loop-member
invariant-loop-member l = l.after.items ≡ map (marked l.client l.is_voice l.on) (take l.member-index l.members)
