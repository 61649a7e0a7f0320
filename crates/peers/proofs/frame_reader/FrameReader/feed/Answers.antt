use Rattle.peers.proofs.StreamLemmas.{fed_good, fed_read}
use Rattle.peers.proofs.frame_reader.FrameReader.feed.Goals as goal

pub invariant_of-self : goal.invariant_of-self
invariant_of-self c = fed_read c.args.bytes.now _ _ c.feed.result c.self.invariant c.feed.ensures.told c.feed.ensures.unchanged

pub returns-clause-good : goal.returns-clause-good
returns-clause-good c = fed_good c.args.bytes.now _ _ c.feed.result c.self.invariant c.feed.ensures.told
