use Rattle.std.proofs.Common.{◌≡◌, IfOk, subst}
use Rattle.protocol.specs.Packets.{numbered_from}
use Rattle.sharelink.specs.Calls.{outgoings_of}
use Rattle.sharelink.proofs.hub_packets.next_changes.Goals as goal

pub returns-clause-packets : goal.returns-clause-packets
returns-clause-packets c =
    subst (λ entries. IfOk c.numbered_from.result (λ packets. outgoings_of packets.items ≡ numbered_from c.args.leaf c.args.version entries))
    c.changes_after.ensures.changes c.numbered_from.ensures.packets
