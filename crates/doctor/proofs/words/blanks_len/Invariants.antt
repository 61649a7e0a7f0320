use Rattle.std.proofs.Common.{◌≡◌, ◌+◌, drop}
use Rattle.std.specs.List.{prefix_len}
use Rattle.doctor.specs.Words.{is_blank}
use Rattle.doctor.proofs.words.blanks_len.Given as goal

-- the bytes that are left decide
abbrev pub invariant-loop-byte : goal.invariant-loop-byte
invariant-loop-byte l =
    (l.len ≡ l.byte-index) × (prefix_len is_blank l.fn.line ≡ l.len + prefix_len is_blank (drop l.byte-index l.line))
