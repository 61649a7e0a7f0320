use Rattle.std.proofs.Common.{◌≡◌, take, filter, not}
use Rattle.miniircd.specs.Rooms.{is_client}
use Rattle.miniircd.proofs.channel_edit.without.Given as goal

-- the others among the members so far are kept
abbrev pub invariant-loop-member : goal.invariant-loop-member
invariant-loop-member l = l.after.items ≡ filter (λ m. not (is_client l.client m)) (take l.member-index l.members)
