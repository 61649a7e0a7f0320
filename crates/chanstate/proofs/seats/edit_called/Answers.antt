use Rattle.std.proofs.Common.{◌<◌, ◌∙◌, sym, length, arith}
use Rattle.chanstate.specs.Seats.{seated}
use Rattle.chanstate.specs.Members.{is_called, edited}
use Rattle.chanstate.proofs.FirstsLemmas.{first_changed-nowhere}
use Rattle.chanstate.proofs.SeatLemmas.{seat_within, unseated}
use Rattle.chanstate.proofs.seats.edit_called.Goals as goal

pub edit_at-requires : goal.edit_at-requires
edit_at-requires c =
    let seats = c.args.seats.now in
    let within : c.in-Some.at < length seats.places.items = seat_within seats.mapping c.args.nick.now seats.places.items c.in-Some.at
    (sym c.place_of.ensures ∙ c.in-Some.is) in
    omega (arith, within)

pub returns-in_default-clause-edited : goal.returns-in_default-clause-edited
returns-in_default-clause-edited c =
    let seats = c.args.seats.now in
    sym (first_changed-nowhere (is_called seats.mapping c.args.nick.now) (edited c.args.edit) (seated seats.places.items)
    (unseated seats.mapping c.args.nick.now seats.places.items (sym c.place_of.ensures ∙ c.in_default.is)))
