use Rattle.std.proofs.Common.{◌∙◌, ap}
use Rattle.std.specs.List.{position}
use Rattle.chanstate.specs.Seats.{is_seat_of}
use Rattle.chanstate.proofs.SeatLemmas.{walked}
use Rattle.chanstate.proofs.seats.place_in_index.Goals as goal

pub returns-in-None : goal.returns-in-None
returns-in-None c =
    let seats = c.args.seats.now in
    walked seats.mapping c.args.nick.now seats.places.items seats.index.entries c.walk_to.result c.requires
    (c.walk_to.ensures ∙ ap (position (is_seat_of seats.mapping c.args.nick.now)) c.as_slice.ensures.value)
