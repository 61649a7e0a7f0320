use Rattle.std.proofs.Common.{take}
use Rattle.std.specs.List.{flat_map}
use Rattle.page.specs.Marks.{shown_byte}
use Rattle.page.specs.Writing.{Adds}
use Rattle.page.proofs.sheet.Sheet.put_bytes.Given as goal

-- the bytes so far are shown
abbrev pub invariant-loop-byte : goal.invariant-loop-byte
invariant-loop-byte l = Adds l.fn.self (flat_map shown_byte (take l.byte-index l.text)) l.self
