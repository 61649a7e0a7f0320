use Rattle.std.proofs.Common.{◌≤◌, length}
use Rattle.rfccase.specs.declared.casemappings.Casemapping.{Casemapping}
use Rattle.userfile.specs.Search.{SameBest}
use Rattle.userfile.proofs.persons.from_first_within.Given as goal

-- those that were left out make nothing of the best
abbrev pub invariant-loop-rest : goal.invariant-loop-rest
invariant-loop-rest l = record { same : (mapping : Casemapping) → SameBest mapping l.pairs l.rest l.group; shorter : length l.rest ≤ length l.group }

abbrev pub decreases-loop-rest : goal.decreases-loop-rest
decreases-loop-rest l = length l.rest
