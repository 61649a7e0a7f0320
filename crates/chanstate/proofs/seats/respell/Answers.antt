use Rattle.std.proofs.Common.{◌∙◌, ◌<◌, ap, sym, Some, length, arith}
use Rattle.std.proofs.lemmas.List.{set-set}
use Rattle.rfccase.specs.Casemapping.{folded_by}
use Rattle.chanstate.specs.Seats.{seated}
use Rattle.chanstate.specs.Members.{is_called, with_nick}
use Rattle.chanstate.proofs.FirstsLemmas.{first_changed-nowhere}
use Rattle.chanstate.proofs.SeatLemmas.{at_ok, respelled, seat_edited, seat_indexed, seat_within, unseated, vacant_seat}
use Rattle.chanstate.proofs.seats.respell.Goals as goal

pub returns-in_default-clause-renamed : goal.returns-in_default-clause-renamed
returns-in_default-clause-renamed c =
    let seats = c.args.seats.now in
    sym (first_changed-nowhere (is_called seats.mapping c.args.old.now) (with_nick c.args.nick) (seated seats.places.items)
    (unseated seats.mapping c.args.old.now seats.places.items (sym c.place_of.ensures ∙ c.in_default.is)))

pub index_mut-requires : goal.index_mut-requires
index_mut-requires c =
    let seats = c.args.seats.now in
    let within : c.in-Some.at < length seats.places.items = seat_within seats.mapping c.args.old.now seats.places.items c.in-Some.at
    (sym c.place_of.ensures ∙ c.in-Some.is) in
    omega (arith, within)

pub index_mut-requires-2 : goal.index_mut-requires-2
index_mut-requires-2 c =
    let seats = c.args.seats.now in
    let within : c.in-Some.at < length seats.places.items = seat_within seats.mapping c.args.old.now seats.places.items c.in-Some.at
    (sym c.place_of.ensures ∙ c.in-Some.is) in
    omega (arith, within)

pub returns-in_default-take-clause-renamed : goal.returns-in_default-take-clause-renamed
returns-in_default-take-clause-renamed c =
    absurd (vacant_seat c.args.seats.now.mapping c.args.old.now c.args.seats.now.places.items c.in-Some.at _
    (sym c.place_of.ensures ∙ c.in-Some.is) (sym c.index_mut.ensures.value ∙ sym c.take.ensures.value ∙ c.in_default-take.is))

pub returns-then-seats-clause-indexed : goal.returns-then-seats-clause-indexed
returns-then-seats-clause-indexed c = λ used.
    let seats = c.args.seats.now in
    let m = c.in-Some-take.member in
    let removed = c.swap_remove-place.ensures.updates in
    let inserted = at_ok c.insert.result _
    (c.insert.ensures.succeeds (omega (arith, (c.requires.entry used), c.swap_remove-place.ensures.room.0))) c.insert.ensures.updates in
    let lower-is = c.as_slice.ensures.value ∙ c.lower_case-lower.ensures ∙ ap (folded_by seats.mapping) c.replace.ensures.value in
    (respelled seats.mapping c.args.old.now c.args.nick c.as_slice.result.now c.args.key seats.places.items seats.index.entries
    c.swap_remove-place.new.self.entries c.insert.new.self.entries
    c.in-Some.at m (record m { nick = c.replace.new.dest }) c.take.new.self _ (c.requires.indexed used)
    (seat_indexed seats.mapping c.args.old.now seats.places.items seats.index.entries c.in-Some.at (c.requires.indexed used)
    (sym c.place_of.ensures ∙ c.in-Some.is))
    (sym c.index_mut.ensures.value ∙ sym c.take.ensures.value ∙ c.in-Some-take.is)
    c.take.ensures.after lower-is removed.1 removed.3 c.requires.key inserted.1 inserted.3 (c.requires.apart used)
    (ap (λ n. with_nick n m) c.replace.ensures.after)).0

pub returns-then-seats-clause-renamed : goal.returns-then-seats-clause-renamed
returns-then-seats-clause-renamed c =
    let seats = c.args.seats.now in
    let m = c.in-Some-take.member in
    ap seated (set-set seats.places.items c.in-Some.at c.take.new.self (Some (record m { nick = c.replace.new.dest })))
    ∙ seat_edited seats.mapping c.args.old.now (with_nick c.args.nick) seats.places.items c.in-Some.at m _ _ (sym c.place_of.ensures ∙ c.in-Some.is)
    (sym c.index_mut.ensures.value ∙ sym c.take.ensures.value ∙ c.in-Some-take.is) (ap (λ n. with_nick n m) c.replace.ensures.after)

pub returns-else-seats-clause-renamed : goal.returns-else-seats-clause-renamed
returns-else-seats-clause-renamed c =
    let seats = c.args.seats.now in
    let m = c.in-Some-take.member in
    ap seated (set-set seats.places.items c.in-Some.at c.take.new.self (Some (record m { nick = c.replace.new.dest })))
    ∙ seat_edited seats.mapping c.args.old.now (with_nick c.args.nick) seats.places.items c.in-Some.at m _ _ (sym c.place_of.ensures ∙ c.in-Some.is)
    (sym c.index_mut.ensures.value ∙ sym c.take.ensures.value ∙ c.in-Some-take.is) (ap (λ n. with_nick n m) c.replace.ensures.after)
