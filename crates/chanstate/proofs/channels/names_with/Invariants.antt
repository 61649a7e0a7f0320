use Rattle.std.proofs.Common.{◌≡◌, take, map, filter}
use Rattle.chanstate.specs.Members.{has_member}
use Rattle.chanstate.proofs.channels.names_with.Given as goal

-- the names so far
abbrev pub invariant-loop-channel : goal.invariant-loop-channel
invariant-loop-channel l = l.names.items
    ≡ map (λ channel. channel.name) (filter (λ channel. has_member l.mapping l.nick channel.members) (take l.channel-index l.channels))
