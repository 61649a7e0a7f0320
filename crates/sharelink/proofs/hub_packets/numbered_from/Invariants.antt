use Rattle.std.proofs.Common.{◌≡◌, ◌++◌, ◌+◌, drop}
use Rattle.protocol.specs.Packets.{numbered_from}
use Rattle.sharelink.specs.Calls.{outgoings_of}
use Rattle.sharelink.proofs.hub_packets.numbered_from.Given as goal

-- those so far and those that are left are all of them
abbrev pub invariant-loop-entry : goal.invariant-loop-entry
invariant-loop-entry l =
    (l.number ≡ l.version + l.entry-index)
    × (outgoings_of l.packets.items ++ numbered_from l.leaf l.number (drop l.entry-index l.entries) ≡ numbered_from l.leaf l.version l.entries)
