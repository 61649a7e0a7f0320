use Rattle.std.proofs.Common.{◌≡◌}
use Rattle.peers.specs.Drawn.{nonces_of}
use Rattle.peers.proofs.guests.recount.Given as goal

-- the nonces are those of before
abbrev pub invariant-loop-guest : goal.invariant-loop-guest
invariant-loop-guest l = nonces_of l.guests ≡ nonces_of l.fn.guests
