use Rattle.std.proofs.Common.{◌≡◌, length}
use Rattle.ircline.specs.Reading.{flush}
use Rattle.ircline.proofs.read.without_spaces.Given as goal

-- the spaces passed so far stood at the front
abbrev pub invariant-loop-rest : goal.invariant-loop-rest
invariant-loop-rest l = flush l.rest ≡ flush l.text

abbrev pub decreases-loop-rest : goal.decreases-loop-rest
decreases-loop-rest l = length l.rest
