use Rattle.std.proofs.Common.{ap, ◌∙◌}
use Rattle.peers.specs.declared.link_wire.LinkWire.{LinkWire}
use Rattle.peers.proofs.SealLemmas.{carries, taken_grows}
use Rattle.peers.proofs.link_wire.LinkWire.open.Goals as goal

pub returns-clause-opens : goal.returns-clause-opens
returns-clause-opens c = record {
  piece = c.read.new.self.heard.items;
  heard =
      taken_grows _ _ _ c.read.ensures.grows
      (ap (λ (w : LinkWire). w.connection.heard.items) c.heed.ensures.same ∙ c.take_heard-bytes.ensures.none);
  opens = λ stream bodies opens.
      carries stream _ _ bodies _ _ _ _ (c.in_ok-opened.ensures.opens stream bodies opens)
      (c.as_slice.ensures.value ∙ c.take_heard-bytes.ensures.all) (ap (λ (w : LinkWire). w.opener) c.heed.ensures.same);
}
