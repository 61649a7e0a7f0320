use Rattle.std.proofs.Common.{◌≡◌, drop}
use Rattle.doctor.specs.Words.{number_from}
use Rattle.doctor.proofs.words.number_in.Given as goal

abbrev pub invariant-loop-byte : goal.invariant-loop-byte
invariant-loop-byte l = number_from l.value (drop l.byte-index l.word) ≡ number_from 0 l.word
