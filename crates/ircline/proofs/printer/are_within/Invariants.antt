use Rattle.std.proofs.Common.{◌≡◌, length}
use Rattle.std.specs.Prelude.{nat_le}
use Rattle.ircline.specs.Printing.{params_text}
use Rattle.ircline.proofs.printer.are_within.Given as goal

-- the room that is left is what the parameters so far left
abbrev pub invariant-loop-rest : goal.invariant-loop-rest
invariant-loop-rest l = nat_le (length (params_text l.rest)) l.room ≡ nat_le (length (params_text l.params)) l.fn.room

abbrev pub decreases-loop-rest : goal.decreases-loop-rest
decreases-loop-rest l = length l.rest
