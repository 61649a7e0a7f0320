use Rattle.std.proofs.Common.{◌∙◌, sym}
use Rattle.chanstate.specs.Seats.{seated}
use Rattle.chanstate.specs.Members.{is_called}
use Rattle.bytetext.proofs.Lists.{find-none}
use Rattle.chanstate.proofs.SeatLemmas.{seat_found, unseated}
use Rattle.chanstate.proofs.seats.walk_for.Goals as goal

pub returns-in-Some : goal.returns-in-Some
returns-in-Some c =
    c.as_ref.ensures.value ∙ c.index-places-at.is
    ∙ sym (seat_found c.args.mapping c.args.nick.now c.args.places.now c.in-Some.at c.index-places-at.result (sym c.walk_to.ensures ∙ c.in-Some.is))

pub returns-in-None : goal.returns-in-None
returns-in-None c =
    sym (find-none (is_called c.args.mapping c.args.nick.now) (seated c.args.places.now)
    (unseated c.args.mapping c.args.nick.now c.args.places.now (sym c.walk_to.ensures ∙ c.in-None.is)))
