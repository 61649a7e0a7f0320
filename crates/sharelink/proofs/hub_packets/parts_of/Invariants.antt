use Rattle.std.proofs.Common.{◌≡◌, ◌++◌, ◌+◌, ◌-◌}
use Rattle.protocol.specs.HubRules.{parts_from}
use Rattle.sharelink.specs.Calls.{outgoings_of}
use Rattle.sharelink.proofs.hub_packets.parts_of.Given as goal

-- those so far and those that are left are all of them
abbrev pub invariant-loop-place : goal.invariant-loop-place
invariant-loop-place l =
    outgoings_of l.packets.items ++ parts_from l.hub l.leaf (l.place + 1) (l.count - l.place) ≡ parts_from l.hub l.leaf 1 l.count
