use Rattle.std.proofs.Common.{◌∙◌, sym, refl}
use Rattle.chanstate.proofs.SeatLemmas.{walked}
use Rattle.chanstate.proofs.seats.place_of.Goals as goal

pub returns-then-seats : goal.returns-then-seats
returns-then-seats c =
    let seats = c.args.seats.now in
    c.place_in_index.ensures
    ∙ sym (walked seats.mapping c.args.nick.now seats.places.items seats.index.entries _ (c.requires c.if-seats.true) refl)
