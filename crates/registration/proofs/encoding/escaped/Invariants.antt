use Rattle.std.proofs.Common.{◌≡◌, take}
use Rattle.registration.specs.Messages.{escaped}
use Rattle.registration.proofs.encoding.escaped.Given as goal

abbrev pub invariant-loop-byte : goal.invariant-loop-byte
invariant-loop-byte l = l.text.items ≡ escaped (take l.byte-index l.name)
