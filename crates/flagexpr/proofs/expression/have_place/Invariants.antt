use Rattle.std.proofs.Common.{◌≡◌, true, take}
use Rattle.std.specs.List.{list_all}
use Rattle.flagexpr.specs.Faults.{has_place}
use Rattle.flagexpr.proofs.expression.have_place.Given as goal

-- the bytes so far have a place
abbrev pub invariant-loop-byte : goal.invariant-loop-byte
invariant-loop-byte l = list_all has_place (take l.byte-index l.text) ≡ true
