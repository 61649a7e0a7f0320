use Rattle.std.proofs.Common.{◌≡◌, ◌++◌, ◌+◌, ◌-◌}
use Rattle.protocol.specs.Packets.{change_packet, to_each}
use Rattle.sharelink.specs.Calls.{outgoings_of}
use Rattle.sharelink.specs.HubLinks.{told_accepted}
use Rattle.sharelink.proofs.hub_packets.accepted_packets.Given as goal

-- those so far and those that are left are all of them
abbrev pub invariant-loop-place : goal.invariant-loop-place
invariant-loop-place l =
    outgoings_of l.packets.items ++ to_each (l.place + 1) (l.leaves - l.place) (change_packet l.number l.entry)
    ≡ told_accepted l.leaves l.number l.entry
