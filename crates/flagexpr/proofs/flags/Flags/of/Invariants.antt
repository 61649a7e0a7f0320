use Rattle.std.proofs.Common.{◌≡◌, take}
use Rattle.flagexpr.specs.Letters.{set_of}
use Rattle.flagexpr.proofs.flags.Flags.of.Given as goal

-- the letters so far are in the set
abbrev pub invariant-loop-byte : goal.invariant-loop-byte
invariant-loop-byte l = l.flags ≡ set_of (take l.byte-index l.bytes)
