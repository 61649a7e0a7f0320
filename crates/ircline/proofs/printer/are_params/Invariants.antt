use Rattle.std.proofs.Common.{◌≡◌, length}
use Rattle.ircline.specs.Carrying.{carries_params}
use Rattle.ircline.proofs.printer.are_params.Given as goal

-- the parameters so far may stand where they do
abbrev pub invariant-loop-rest : goal.invariant-loop-rest
invariant-loop-rest l = carries_params l.rest ≡ carries_params l.params

abbrev pub decreases-loop-rest : goal.decreases-loop-rest
decreases-loop-rest l = length l.rest
