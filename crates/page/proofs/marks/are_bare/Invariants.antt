use Rattle.std.proofs.Common.{◌≡◌, drop}
use Rattle.std.specs.List.{list_all}
use Rattle.page.specs.Marks.{is_bare}
use Rattle.page.proofs.marks.are_bare.Given as goal

-- the bytes that are left decide
abbrev pub invariant-loop-byte : goal.invariant-loop-byte
invariant-loop-byte l = list_all is_bare l.fn.text ≡ list_all is_bare (drop l.byte-index l.text)
