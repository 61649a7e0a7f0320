use Rattle.std.proofs.Common.{◌≡◌, ◌++◌, false, length}
use Rattle.std.specs.List.{list_all}
use Rattle.ircline.specs.Classes.{is_end}
use Rattle.ircline.specs.Stream.{lines_of, begun}
use Rattle.ircline.proofs.reader.push_lines.Given as goal

-- the lines so far, and those of the text that is left, are all of them; a byte left that ends none is one of the text's
abbrev pub invariant-loop-rest : goal.invariant-loop-rest
invariant-loop-rest l = record {
  lines : l.lines.items ++ lines_of l.text ≡ l.fn.lines.items ++ lines_of l.initial.text;
  rest : begun l.text ≡ begun l.initial.text;
  ends : list_all is_end l.text ≡ false → list_all is_end l.initial.text ≡ false;
}

abbrev pub decreases-loop-rest : goal.decreases-loop-rest
decreases-loop-rest l = length l.text
