use Rattle.std.proofs.Common.{ap, arith}
use Rattle.protocol.specs.Packets.{Outgoing}
use Rattle.sharelink.proofs.Sending.{numbered-more}
use Rattle.sharelink.proofs.hub_packets.numbered_from.Goals as goal

pub loop-entry-preserved : goal.loop-entry-preserved
loop-entry-preserved c = (
  omega (arith, c.loop-entry.invariant.0),
  numbered-more c.args.leaf c.loop-entry.number c.args.entries.now c.loop-entry.entry-index c.entry-item.result c.loop-entry.packets.items
      c.push.new.self.items _ _ c.loop-entry-test.true c.entry-item.is c.in_ok-push.ensures.items
      (ap (λ p. (let o : Outgoing = record { to = c.args.leaf; packet = p } in o)) c.in_ok-packet.ensures) c.loop-entry.invariant.1,
)
