use Rattle.std.proofs.Common.{◌≡◌, ◌++◌, map, take, drop}
use Rattle.serverlink.specs.Listing.{rekeyed_at}
use Rattle.serverlink.proofs.configured_channels.rekey_all.Given as goal

-- the seats before the index have the key, and the rest are as they were
abbrev pub invariant-loop-seat : goal.invariant-loop-seat
invariant-loop-seat l =
    l.seats ≡ map (rekeyed_at l.mapping l.name l.key l.now) (take l.seat-index l.initial.seats) ++ drop l.seat-index l.initial.seats
