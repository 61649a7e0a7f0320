use Rattle.std.proofs.Common.{◌≡◌, nat_lt, take}
use Rattle.std.specs.List.{list_all}
use Rattle.wildmask.proofs.checks.is_printable.Given as goal

-- whether the bytes so far are above the space
abbrev pub invariant-loop-byte : goal.invariant-loop-byte
invariant-loop-byte l = l.good ≡ list_all (λ b. nat_lt 32 b) (take l.byte-index l.text)
