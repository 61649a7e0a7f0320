use Rattle.std.proofs.Common.{◌≡◌, ◌<◌, drop}
use Rattle.recordtext.specs.Words.{value_of}
use Rattle.recordtext.proofs.Values.{together}
use Rattle.recordtext.proofs.numeral.value_of.Given as goal

abbrev pub invariant-loop-byte : goal.invariant-loop-byte
invariant-loop-byte l = (together l.value (drop l.byte-index l.word) ≡ value_of l.word) × (l.value < 18446744073709551616)
