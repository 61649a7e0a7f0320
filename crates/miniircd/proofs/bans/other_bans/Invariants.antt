use Rattle.std.proofs.Common.{◌≡◌, take, filter, not}
use Rattle.miniircd.specs.Rooms.{is_ban}
use Rattle.miniircd.proofs.bans.other_bans.Given as goal

-- the others among the bans so far are kept
abbrev pub invariant-loop-ban : goal.invariant-loop-ban
invariant-loop-ban l = l.after.items ≡ filter (λ m. not (is_ban l.text m)) (take l.ban-index l.bans)
