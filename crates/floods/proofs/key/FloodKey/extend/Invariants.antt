use Rattle.std.proofs.Common.{◌≡◌, drop}
use Rattle.floods.specs.Acts.{key_from}
use Rattle.floods.proofs.key.FloodKey.extend.Given as goal

abbrev pub invariant-loop-byte : goal.invariant-loop-byte
invariant-loop-byte l = key_from l.self (drop l.byte-index l.bytes) ≡ key_from l.initial.self l.bytes
