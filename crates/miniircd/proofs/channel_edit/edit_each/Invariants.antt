use Rattle.std.proofs.Common.{◌≡◌, take, map, filter}
use Rattle.std.specs.Option.{option_copied}
use Rattle.miniircd.specs.Rooms.{seen, edited_if, is_used}
use Rattle.miniircd.proofs.channel_edit.edit_each.Given as goal

-- the channels so far are those that are kept of the ones that were looked at
abbrev pub invariant-loop-channel : goal.invariant-loop-channel
invariant-loop-channel l = l.after.items ≡ filter is_used (map (edited_if (option_copied l.name) (seen l.edit)) (take l.channel-index l.channels))
