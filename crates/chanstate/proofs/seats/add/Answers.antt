use Rattle.std.proofs.Common.{◌∙◌, ap}
use Rattle.std.specs.List.{list_any}
use Rattle.chanstate.specs.Members.{is_called}
use Rattle.chanstate.proofs.SeatLemmas.{absent_seat}
use Rattle.chanstate.proofs.seats.add.Goals as goal

pub seat_last-requires-clause-absent : goal.seat_last-requires-clause-absent
seat_last-requires-clause-absent c =
    let mapping = c.args.seats.now.mapping in
    let nick = c.args.one.nick in
    rw (c.in_ok-make_room.ensures.mapping)
    (absent_seat mapping nick _ (ap (list_any (is_called mapping nick)) c.in_ok-make_room.ensures.same ∙ c.requires.absent))
