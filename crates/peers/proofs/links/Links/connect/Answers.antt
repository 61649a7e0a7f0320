use Rattle.std.proofs.Common.{ap, refl, sym}
use Rattle.peers.specs.Drawn.{nonces_in}
use Rattle.peers.proofs.DiceLemmas.{among_same, among_self, draws_none, draws_same}
use Rattle.peers.proofs.links.Links.connect.Goals as goal

pub returns-in-Alone-clause-nonces : goal.returns-in-Alone-clause-nonces
returns-in-Alone-clause-nonces g c = draws_same _ _

pub returns-in-None-clause-nonces : goal.returns-in-None-clause-nonces
returns-in-None-clause-nonces g c = draws_none refl (among_same (sym (ap nonces_in c.in-Leaf.is)) (among_self _))
