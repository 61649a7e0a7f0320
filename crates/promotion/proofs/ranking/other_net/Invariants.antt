use Rattle.promotion.proofs.Nets.{AreSame}
use Rattle.promotion.proofs.ranking.other_net.Given as goal

-- those so far are of the first one's net
abbrev pub invariant-loop-place : goal.invariant-loop-place
invariant-loop-place l = AreSame l.standings l.place l.first.net
