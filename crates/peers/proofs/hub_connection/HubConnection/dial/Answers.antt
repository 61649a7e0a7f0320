use Rattle.std.proofs.Common.{◌≡◌, Option, subst}
use Rattle.std.specs.Prelude.{IfSome}
use Rattle.net.specs.declared.dialling.Dialled.{Dialled}
use Rattle.peers.specs.declared.hub_turn.HubTurn.{HubTurn}
use Rattle.peers.specs.Moving.{TriesNext}
use Rattle.peers.proofs.DiceLemmas.{draws_same}
use Rattle.peers.proofs.hub_connection.HubConnection.dial.Goals as goal

pub returns-in_err-dialled-clause-nonces : goal.returns-in_err-dialled-clause-nonces
returns-in_err-dialled-clause-nonces g c = draws_same _ _

pub returns-in-None-clause-nonces : goal.returns-in-None-clause-nonces
returns-in-None-clause-nonces g c = draws_same _ _

-- while a connection begins, nothing has changed before
pub returns-in-Some-clause-next : goal.returns-in-Some-clause-next
returns-in-Some-clause-next g c =
    let same = subst (λ (found : Option Dialled). IfSome found (λ x. c.dialled.new.turn ≡ c.args.self.now.turn)) c.in-Some.is
    c.in_ok-dialled.ensures.found in
    subst (λ (turn : HubTurn). TriesNext turn.dialling c.begin.new.self.turn.dialling) same c.begin.ensures.next
