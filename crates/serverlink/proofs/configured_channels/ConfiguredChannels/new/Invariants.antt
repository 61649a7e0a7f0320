use Rattle.std.proofs.Common.{◌≡◌, map, take}
use Rattle.serverlink.specs.Listing.{begun_as}
use Rattle.serverlink.proofs.configured_channels.ConfiguredChannels.new.Given as goal

-- the seats of the channels so far
abbrev pub invariant-loop-channel : goal.invariant-loop-channel
invariant-loop-channel l = l.seats.items ≡ map (begun_as l.number) (take l.channel-index l.listed)
