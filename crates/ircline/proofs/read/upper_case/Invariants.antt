use Rattle.std.proofs.Common.{◌≡◌, map, take}
use Rattle.ircline.specs.Classes.{upper}
use Rattle.ircline.proofs.read.upper_case.Given as goal

-- the bytes so far are in upper case
abbrev pub invariant-loop-byte : goal.invariant-loop-byte
invariant-loop-byte l = l.bytes.items ≡ map upper (take l.byte-index l.command)
