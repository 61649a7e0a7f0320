use Rattle.std.proofs.Common.{◌≡◌, ◌++◌, take, drop, map}
use Rattle.chanstate.specs.Channels.{with_members}
use Rattle.chanstate.specs.Firsts.{first_removed}
use Rattle.chanstate.specs.Members.{is_called}
use Rattle.chanstate.proofs.channels.Channels.depart.Given as goal

-- the nick has left the channels so far
abbrev pub invariant-loop-channel : goal.invariant-loop-channel
invariant-loop-channel l =
    l.channel-items ≡ map (with_members (first_removed (is_called l.mapping l.nick)))
    (take l.channel-index l.initial.channel-items) ++ drop l.channel-index l.initial.channel-items
