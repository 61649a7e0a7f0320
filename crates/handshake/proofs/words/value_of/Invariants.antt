use Rattle.std.proofs.Common.{◌≡◌, drop}
use Rattle.handshake.specs.Numbers.{wide_from}
use Rattle.handshake.proofs.words.value_of.Given as goal

abbrev pub invariant-loop-byte : goal.invariant-loop-byte
invariant-loop-byte l = wide_from l.value (drop l.byte-index l.word) ≡ wide_from 0 l.word
