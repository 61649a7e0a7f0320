use Rattle.std.specs.List.{flat_map}
use Rattle.page.specs.Marks.{shown_char}
use Rattle.page.specs.Writing.{Adds}
use Rattle.page.proofs.sheet.Sheet.put_chars.Given as goal

-- the characters so far are shown
abbrev pub invariant-loop-c : goal.invariant-loop-c
invariant-loop-c l = Adds l.fn.self (flat_map shown_char l.yielded) l.self
