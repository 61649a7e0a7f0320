use Rattle.std.proofs.Common.{◌≤◌, length}
use Rattle.handshake.proofs.secret.front_of.Given as goal

-- no more was read than there is room for
abbrev pub invariant-loop : goal.invariant-loop
invariant-loop l = l.count ≤ length l.bytes
