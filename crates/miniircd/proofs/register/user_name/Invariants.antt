use Rattle.std.proofs.Common.{◌≡◌, take, map}
use Rattle.miniircd.specs.Commands.{user_byte}
use Rattle.miniircd.proofs.register.user_name.Given as goal

-- the bytes so far have their places taken
abbrev pub invariant-loop-byte : goal.invariant-loop-byte
invariant-loop-byte l = l.name.items ≡ map user_byte (take l.byte-index l.text)
