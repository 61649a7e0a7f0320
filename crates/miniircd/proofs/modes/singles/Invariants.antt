use Rattle.std.proofs.Common.{◌≡◌, ◌++◌, drop, true}
use Rattle.miniircd.specs.Modes.{singles}
use Rattle.miniircd.proofs.modes.singles.Given as goal

-- those so far, and those of the bytes that are left
abbrev pub invariant-loop-byte : goal.invariant-loop-byte
invariant-loop-byte l = l.all.items ++ singles l.on (drop l.byte-index l.modes) l.rest ≡ singles true l.modes l.arguments
