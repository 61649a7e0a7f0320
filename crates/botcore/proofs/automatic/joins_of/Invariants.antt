use Rattle.std.proofs.Common.{◌≡◌, map, take}
use Rattle.botcore.specs.Automatic.{join_wish}
use Rattle.botcore.proofs.automatic.joins_of.Given as goal

-- the channels so far
abbrev pub invariant-loop-channel : goal.invariant-loop-channel
invariant-loop-channel l = l.wishes.items ≡ map join_wish (take l.channel-index l.channels)
