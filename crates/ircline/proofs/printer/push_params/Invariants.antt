use Rattle.std.proofs.Common.{◌≡◌, ◌++◌, length}
use Rattle.ircline.specs.Printing.{params_text}
use Rattle.ircline.proofs.printer.push_params.Given as goal

-- the text so far, and that of the parameters that are left, are all of it
abbrev pub invariant-loop-rest : goal.invariant-loop-rest
invariant-loop-rest l = l.line.items ++ params_text l.rest ≡ l.fn.line.items ++ params_text l.params

abbrev pub decreases-loop-rest : goal.decreases-loop-rest
decreases-loop-rest l = length l.rest
