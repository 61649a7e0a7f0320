use Rattle.std.proofs.Common.{ap, ◌+◌}
use Rattle.protocol.specs.Packets.{change_packet, Outgoing}
use Rattle.sharelink.proofs.Sending.{each-more}
use Rattle.sharelink.proofs.hub_packets.accepted_packets.Goals as goal

pub loop-place-preserved : goal.loop-place-preserved
loop-place-preserved c =
    let packet = change_packet c.args.number c.args.entry.now in
    each-more packet c.loop-place.packets.items c.push.new.self.items _ c.loop-place.place c.args.leaves _ c.loop-place-test.true c.in_ok-push.ensures.items
    (ap (λ p. (let o : Outgoing = record { to = c.loop-place.place + 1; packet = p } in o)) c.in_ok-packet.ensures) c.loop-place.invariant
