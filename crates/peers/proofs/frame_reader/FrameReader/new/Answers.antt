use Rattle.std.specs.Prelude.{[]}
use Rattle.peers.proofs.frame_reader.FrameReader.new.Goals as goal

pub invariant_of-result : goal.invariant_of-result
invariant_of-result c = record { stream = []; packets = []; tells = c.new.ensures.told }
