use Rattle.std.proofs.Common.{◌≡◌, drop}
use Rattle.chanstate.specs.Announced.{with_letters}
use Rattle.chanstate.proofs.letters.Letters.add_all.Given as goal

-- the bytes that are left lead from here to where all lead from the start
abbrev pub invariant-loop-byte : goal.invariant-loop-byte
invariant-loop-byte l = with_letters (drop l.byte-index l.text) l.self ≡ with_letters l.text l.initial.self
