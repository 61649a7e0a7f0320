use Rattle.replay.specs.Starting.{AreNew}
use Rattle.replay.proofs.starting.new_bots.Given as goal

-- the bots so far
abbrev pub invariant-loop-number : goal.invariant-loop-number
invariant-loop-number l = AreNew l.leaves l.zone l.number l.bots.items
