use Rattle.std.proofs.Common.{◌≡◌, drop}
use Rattle.registration.specs.Messages.{digits_from}
use Rattle.registration.proofs.scram_reading.number_of.Given as goal

abbrev pub invariant-loop-byte : goal.invariant-loop-byte
invariant-loop-byte l = digits_from l.value (drop l.byte-index l.digits) ≡ digits_from 0 l.digits
