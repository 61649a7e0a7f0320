use Rattle.std.proofs.Common.{◌≡◌, drop}
use Rattle.chanstate.specs.Announced.{number_from}
use Rattle.chanstate.proofs.support.number_in.Given as goal

-- the digits that are left make the number of all of them
abbrev pub invariant-loop-byte : goal.invariant-loop-byte
invariant-loop-byte l = number_from l.value (drop l.byte-index l.text) ≡ number_from 0 l.text
