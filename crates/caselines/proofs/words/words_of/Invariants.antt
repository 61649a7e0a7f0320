use Rattle.std.proofs.Common.{length}
use Rattle.caselines.proofs.words.words_of.Given as goal

-- each turn takes a byte at least
abbrev pub decreases-loop-rest : goal.decreases-loop-rest
decreases-loop-rest l = length l.rest
