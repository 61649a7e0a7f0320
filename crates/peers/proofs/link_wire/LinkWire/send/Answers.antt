use Rattle.peers.proofs.SealLemmas.{same_seals}
use Rattle.peers.proofs.link_wire.LinkWire.send.Goals as goal

pub returns-clause-sends : goal.returns-clause-sends
returns-clause-sends c = record {
  mid = c.seal.new.self;
  seals = same_seals c.args.self.now c.put_if_due.new.self c.seal.new.self c.put_if_due.ensures.same c.seal.ensures.seals;
  sends = c.offer.ensures.sends;
  outbox = c.offer.ensures.outbox;
  sealer = c.offer.ensures.sealer;
}
