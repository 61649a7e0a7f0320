use Rattle.std.proofs.Common.{refl, sym, subst}
use Rattle.handshake.specs.Sides.{IsShown}
use Rattle.handshake.proofs.ShownLemmas.{heard_line}
use Rattle.handshake.proofs.hub_side.HubSide.hear.Goals as goal

pub returns-in-Some-clause-shown : goal.returns-in-Some-clause-shown
returns-in-Some-clause-shown c =
    subst (IsShown c.args.self.now c.args.heard.now) (sym c.hear_line.ensures)
    (heard_line c.args.self.now c.args.heard.now c.in-Some.len _ (sym c.in-Some.ensures.value) refl)
