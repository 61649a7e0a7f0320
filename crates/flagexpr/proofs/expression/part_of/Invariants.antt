use Rattle.std.proofs.Common.{◌≡◌, ◌⊎◌, drop}
use Rattle.std.specs.List.{fold}
use Rattle.flagexpr.specs.Letters.{with_letter, set_of}
use Rattle.flagexpr.specs.Expression.{bytes_under}
use Rattle.flagexpr.proofs.expression.part_of.Given as goal

-- with the bytes that are left the two sets become those of the part
abbrev pub invariant-loop-byte : goal.invariant-loop-byte
invariant-loop-byte l =
    record {
      sign : (l.sign ≡ 43) ⊎ (l.sign ≡ 45);
      wanted : fold with_letter l.wanted (bytes_under 43 l.sign (drop l.byte-index l.bytes)) ≡ set_of (bytes_under 43 43 l.bytes);
      forbidden : fold with_letter l.forbidden (bytes_under 45 l.sign (drop l.byte-index l.bytes)) ≡ set_of (bytes_under 45 43 l.bytes);
    }
