use Rattle.std.proofs.Common.{◌∙◌, ◌<◌, sym, arith, length}
use Rattle.chanstate.specs.Seats.{seated}
use Rattle.chanstate.specs.Members.{is_called}
use Rattle.bytetext.proofs.Lists.{find-none}
use Rattle.chanstate.proofs.SeatLemmas.{seat_within, seat_found, unseated}
use Rattle.chanstate.proofs.seats.member_of.Goals as goal

pub index-requires : goal.index-requires
index-requires c =
    let seats = c.args.seats.now in
    let within : c.in-Some.at < length seats.places.items = seat_within seats.mapping c.args.nick.now seats.places.items c.in-Some.at (sym c.place_of.ensures ∙ c.in-Some.is) in
    omega (arith, within)

pub returns-in-Some : goal.returns-in-Some
returns-in-Some c =
    let seats = c.args.seats.now in
    c.as_ref.ensures.value ∙ c.index.ensures
    ∙ sym (seat_found seats.mapping c.args.nick.now seats.places.items c.in-Some.at c.index.result.now (sym c.place_of.ensures ∙ c.in-Some.is))

pub returns-in-None : goal.returns-in-None
returns-in-None c =
    let seats = c.args.seats.now in
    sym (find-none (is_called seats.mapping c.args.nick.now) (seated seats.places.items)
    (unseated seats.mapping c.args.nick.now seats.places.items (sym c.place_of.ensures ∙ c.in-None.is)))
