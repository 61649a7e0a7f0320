use Rattle.std.proofs.Common.{◌∙◌}
use Rattle.serverlink.proofs.ToldLemmas.{tells_read}
use Rattle.serverlink.proofs.server_wire.ServerWire.read.Goals as goal

pub invariant_of-self : goal.invariant_of-self
invariant_of-self g c = (
  tells_read _ _ _ _ c.read.result c.read.ensures.reads c.read.ensures.fewer c.self.invariant.0,
  c.read.ensures.bounds ∙ c.self.invariant.1,
)
