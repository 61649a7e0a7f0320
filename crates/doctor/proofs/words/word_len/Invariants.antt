use Rattle.std.proofs.Common.{◌≡◌, ◌+◌, drop}
use Rattle.doctor.specs.Words.{word_len}
use Rattle.doctor.proofs.words.word_len.Given as goal

-- the bytes that are left decide
abbrev pub invariant-loop-byte : goal.invariant-loop-byte
invariant-loop-byte l =
    (l.len ≡ l.byte-index) × (word_len l.fn.line ≡ l.len + word_len (drop l.byte-index l.line))
