use Rattle.std.proofs.Common.{◌<◌, ◌∙◌, ap, sym, length, arith}
use Rattle.std.specs.List.{position}
use Rattle.std.proofs.lemmas.Bool.{cond-true, cond-false}
use Rattle.chanstate.specs.Seats.{is_seat_of}
use Rattle.chanstate.proofs.SeatLemmas.{has_seat, seat_within, unseated}
use Rattle.chanstate.proofs.seating.arrive.Goals as goal

pub edit_at-requires : goal.edit_at-requires
edit_at-requires c =
    let seats = c.args.seats.now in
    let within : c.in-Some.at < length seats.places.items = seat_within seats.mapping _ seats.places.items c.in-Some.at
    (sym c.place_of.ensures ∙ c.in-Some.is) in
    omega (arith, within)

pub returns-in-Some-clause-arrived : goal.returns-in-Some-clause-arrived
returns-in-Some-clause-arrived c =
    let seats = c.args.seats.now in
    let nick = c.args.one.nick in
    let place = ap (λ n. position (is_seat_of seats.mapping n) seats.places.items) (sym c.as_bytes.ensures) ∙ sym c.place_of.ensures ∙ c.in-Some.is in
    c.edit_at.ensures.edited nick place ∙ sym (cond-true _ _ _ (has_seat seats.mapping nick seats.places.items c.in-Some.at place))

pub returns-in-None-clause-arrived : goal.returns-in-None-clause-arrived
returns-in-None-clause-arrived c =
    let seats = c.args.seats.now in
    let nick = c.args.one.nick in
    let none = ap (λ n. position (is_seat_of seats.mapping n) seats.places.items) (sym c.as_bytes.ensures) ∙ sym c.place_of.ensures ∙ c.in-None.is in
    c.seat_last.ensures.seated ∙ sym (cond-false _ _ _ (unseated seats.mapping nick seats.places.items none))
