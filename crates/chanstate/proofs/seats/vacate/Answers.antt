use Rattle.std.proofs.Common.{◌∙◌, ◌<◌, sym, length, arith}
use Rattle.chanstate.specs.Seats.{seated}
use Rattle.chanstate.specs.Members.{is_called}
use Rattle.chanstate.proofs.FirstsLemmas.{first_removed-nowhere}
use Rattle.chanstate.proofs.SeatLemmas.{absent_index, seat_gone, seat_indexed, seat_within, unseated, vacant_seat, vacated}
use Rattle.chanstate.proofs.seats.vacate.Goals as goal

pub returns-in_default-clause-gone : goal.returns-in_default-clause-gone
returns-in_default-clause-gone c = λ used.
    let seats = c.args.seats.now in
    absent_index seats.mapping c.args.nick.now seats.places.items seats.index.entries (c.requires used) (sym c.place_of.ensures ∙ c.in_default.is)

pub returns-in_default-clause-removed : goal.returns-in_default-clause-removed
returns-in_default-clause-removed c =
    let seats = c.args.seats.now in
    sym (first_removed-nowhere (is_called seats.mapping c.args.nick.now) (seated seats.places.items)
    (unseated seats.mapping c.args.nick.now seats.places.items (sym c.place_of.ensures ∙ c.in_default.is)))

pub index_mut-requires : goal.index_mut-requires
index_mut-requires c =
    let seats = c.args.seats.now in
    let within : c.in-Some.at < length seats.places.items = seat_within seats.mapping c.args.nick.now seats.places.items c.in-Some.at
    (sym c.place_of.ensures ∙ c.in-Some.is) in
    omega (arith, within)

pub returns-in_default-take-clause-gone : goal.returns-in_default-take-clause-gone
returns-in_default-take-clause-gone c =
    absurd (vacant_seat c.args.seats.now.mapping c.args.nick.now c.args.seats.now.places.items c.in-Some.at _
    (sym c.place_of.ensures ∙ c.in-Some.is) (sym c.index_mut.ensures.value ∙ sym c.take.ensures.value ∙ c.in_default-take.is))

pub returns-in_default-take-clause-removed : goal.returns-in_default-take-clause-removed
returns-in_default-take-clause-removed c =
    absurd (vacant_seat c.args.seats.now.mapping c.args.nick.now c.args.seats.now.places.items c.in-Some.at _
    (sym c.place_of.ensures ∙ c.in-Some.is) (sym c.index_mut.ensures.value ∙ sym c.take.ensures.value ∙ c.in_default-take.is))

pub returns-clause-indexed : goal.returns-clause-indexed
returns-clause-indexed c = λ used.
    let seats = c.args.seats.now in
    let lower-is = c.as_slice.ensures.value ∙ c.lower_case-lower.ensures in
    let updates = c.swap_remove-place.ensures.updates in
    (vacated seats.mapping c.args.nick.now c.as_slice.result.now seats.places.items seats.index.entries
    c.swap_remove-place.new.self.entries c.in-Some.at c.in-Some-take.member c.take.new.self _ (c.requires used)
    (seat_indexed seats.mapping c.args.nick.now seats.places.items seats.index.entries c.in-Some.at (c.requires used)
    (sym c.place_of.ensures ∙ c.in-Some.is))
    (sym c.index_mut.ensures.value ∙ sym c.take.ensures.value ∙ c.in-Some-take.is) c.take.ensures.after lower-is updates.1 updates.3).0

pub returns-clause-gone : goal.returns-clause-gone
returns-clause-gone c = λ used.
    let seats = c.args.seats.now in
    let lower-is = c.as_slice.ensures.value ∙ c.lower_case-lower.ensures in
    let updates = c.swap_remove-place.ensures.updates in
    (vacated seats.mapping c.args.nick.now c.as_slice.result.now seats.places.items seats.index.entries
    c.swap_remove-place.new.self.entries c.in-Some.at c.in-Some-take.member c.take.new.self _ (c.requires used)
    (seat_indexed seats.mapping c.args.nick.now seats.places.items seats.index.entries c.in-Some.at (c.requires used)
    (sym c.place_of.ensures ∙ c.in-Some.is))
    (sym c.index_mut.ensures.value ∙ sym c.take.ensures.value ∙ c.in-Some-take.is) c.take.ensures.after lower-is updates.1 updates.3).1

pub returns-clause-removed : goal.returns-clause-removed
returns-clause-removed c =
    seat_gone c.args.seats.now.mapping c.args.nick.now c.args.seats.now.places.items c.in-Some.at c.take.new.self
    (sym c.place_of.ensures ∙ c.in-Some.is) c.take.ensures.after
