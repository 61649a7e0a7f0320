use Rattle.std.proofs.Common.{◌≡◌, true, take}
use Rattle.std.specs.List.{list_all}
use Rattle.std.specs.Char.{is_ascii_alphabetic}
use Rattle.flagexpr.proofs.flags.are_letters.Given as goal

-- the bytes so far are letters
abbrev pub invariant-loop-byte : goal.invariant-loop-byte
invariant-loop-byte l = list_all is_ascii_alphabetic (take l.byte-index l.text) ≡ true
