use Rattle.std.proofs.lemmas.List.Edits.{map_over_more}
use Rattle.serverlink.specs.Listing.{rekeyed_at}
use Rattle.serverlink.proofs.configured_channels.rekey_all.Goals as goal

pub loop-seat-preserved : goal.loop-seat-preserved
loop-seat-preserved c =
    rw (c.in_ok-rekeyed.ensures, ← c.seat-item.is)
    (map_over_more (rekeyed_at c.args.mapping c.args.name.now c.args.key.now c.args.now) c.args.seats.now c.loop-seat.seats c.loop-seat.seat-index c.seat-item.result
    c.loop-seat-test.true c.loop-seat.invariant c.seat-item.is)
