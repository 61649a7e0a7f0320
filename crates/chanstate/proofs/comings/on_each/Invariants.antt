use Rattle.std.proofs.Common.{◌≡◌, take, map, filter}
use Rattle.chanstate.specs.Members.{has_member}
use Rattle.chanstate.specs.Deeds.{told}
use Rattle.chanstate.proofs.comings.on_each.Given as goal

-- the events on the channels so far
abbrev pub invariant-loop-channel : goal.invariant-loop-channel
invariant-loop-channel l = l.events.items
    ≡ map (λ channel. told l.deed channel.name) (filter (λ channel. has_member l.mapping l.deed.by.nick.now channel.members) (take l.channel-index l.channels))
