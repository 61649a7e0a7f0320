use Rattle.std.proofs.Common.{◌∙◌, ◌<◌, sym, length, arith}
use Rattle.chanstate.specs.Members.{edited}
use Rattle.chanstate.proofs.SeatLemmas.{edited-indexed, seat_edited, vacant_seat}
use Rattle.chanstate.proofs.seats.edit_at.Goals as goal

pub returns-in-Some-clause-indexed : goal.returns-in-Some-clause-indexed
returns-in-Some-clause-indexed c = λ indexed used.
    let seats = c.args.seats.now in
    let within : c.args.at < length seats.places.items = omega (arith, c.requires) in
    edited-indexed seats.mapping c.args.edit seats.places.items seats.index.entries c.args.at c.in-Some.member c.edit.new.self c.index_mut.result.now within
    c.index_mut.ensures.value c.in-Some.is c.edit.ensures (indexed used)

pub returns-in-Some-clause-edited : goal.returns-in-Some-clause-edited
returns-in-Some-clause-edited c = λ nick place.
    let seats = c.args.seats.now in
    seat_edited seats.mapping nick (edited c.args.edit) seats.places.items c.args.at c.in-Some.member c.edit.new.self c.index_mut.result.now place
    (sym c.index_mut.ensures.value ∙ c.in-Some.is) c.edit.ensures

pub returns-in_default-clause-edited : goal.returns-in_default-clause-edited
returns-in_default-clause-edited c = λ nick place.
    absurd (vacant_seat c.args.seats.now.mapping nick c.args.seats.now.places.items c.args.at _ place (sym c.index_mut.ensures.value ∙ c.in_default.is))
