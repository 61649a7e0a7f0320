use Rattle.std.proofs.Common.{◌≡◌, take}
use Rattle.std.specs.List.{flat_map}
use Rattle.commandline.specs.Escapes.{escape}
use Rattle.commandline.proofs.escaping.escaped.Given as goal

-- the bytes so far are shown
abbrev pub invariant-loop-byte : goal.invariant-loop-byte
invariant-loop-byte l = l.shown.items ≡ flat_map escape (take l.byte-index l.byte-items)
