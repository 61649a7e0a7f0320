use Rattle.std.proofs.Common.{◌≡◌, drop}
use Rattle.bytetext.specs.Numerals.{number_from}
use Rattle.settings.proofs.numeral.value_of_digits.Given as goal

abbrev pub invariant-loop-byte : goal.invariant-loop-byte
invariant-loop-byte l = number_from l.value (drop l.byte-index l.word) ≡ number_from 0 l.word
