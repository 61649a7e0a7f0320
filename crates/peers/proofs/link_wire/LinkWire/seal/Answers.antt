use Rattle.peers.proofs.SealLemmas.{seals_then}
use Rattle.peers.proofs.link_wire.LinkWire.seal.Goals as goal

pub returns-clause-seals : goal.returns-clause-seals
returns-clause-seals c =
    seals_then c.args.self.now c.seal_beat.new.self c.seal_frames.new.self c.seal_beat.ensures.seals c.seal_frames.ensures.seals
