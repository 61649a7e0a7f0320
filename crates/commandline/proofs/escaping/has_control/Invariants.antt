use Rattle.std.proofs.Common.{◌≡◌, length}
use Rattle.commandline.specs.Escapes.{has_control}
use Rattle.commandline.proofs.escaping.has_control.Given as goal

-- the bytes that are left decide
abbrev pub invariant-loop-byte : goal.invariant-loop-byte
invariant-loop-byte l = has_control l.fn.bytes ≡ has_control l.rest

abbrev pub decreases-loop-byte : goal.decreases-loop-byte
decreases-loop-byte l = length l.rest
