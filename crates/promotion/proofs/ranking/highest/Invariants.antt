use Rattle.promotion.proofs.Rankings.{IsBest}
use Rattle.promotion.proofs.ranking.highest.Given as goal

abbrev pub invariant-loop-place : goal.invariant-loop-place
invariant-loop-place l = IsBest l.standings l.place l.best l.version
