use Rattle.peers.proofs.DiceLemmas.{draws_same}
use Rattle.peers.proofs.hub_connection.HubConnection.connect.Goals as goal

pub returns-then-is_some-clause-nonces : goal.returns-then-is_some-clause-nonces
returns-then-is_some-clause-nonces g c = draws_same _ _
