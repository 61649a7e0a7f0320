use Rattle.std.proofs.Common.{◌≡◌, None, replicate}
use Rattle.handshake.proofs.places.empty_places.Given as goal

-- so many are made
abbrev pub invariant-loop-place : goal.invariant-loop-place
invariant-loop-place g l = l.places.items ≡ replicate l._place None
