use Rattle.std.proofs.Common.{◌∙◌, ap}
use Rattle.handshake.specs.declared.leaf_side.LeafSide.{LeafSide}
use Rattle.peers.specs.Drawn.{nonces_at}
use Rattle.peers.proofs.DiceLemmas.{among_last, among_self, draws_none, draws_one}
use Rattle.peers.proofs.hub_connection.HubConnection.begin.Goals as goal

-- no nonce is drawn
pub returns-in_default-clause-nonces : goal.returns-in_default-clause-nonces
returns-in_default-clause-nonces g c = draws_none c.in_default.ensures.none (among_self _)

-- the leaf says the one that is drawn
pub returns-clause-nonces : goal.returns-clause-nonces
returns-clause-nonces g c =
    draws_one c.in-Ok.nonce c.in-Ok.ensures.rolled
    (among_last (nonces_at c.args.self.now.hub) (ap (λ (side : LeafSide). side.nonce) c.begin.ensures ∙ c.side-side.ensures))
