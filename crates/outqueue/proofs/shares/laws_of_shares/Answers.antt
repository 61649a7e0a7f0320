use Rattle.std.proofs.Common.{arith}
use Rattle.outqueue.proofs.ShareLemmas.{StandOnce-put, StandOnce-after_line, StandOnce-after, StandOnce-take, StandOnce-without}
use Rattle.outqueue.proofs.ShareLemmas.{IsFair-put, IsFair-after_line, IsFair-after, IsFair-with_first, IsFair-without}
use Rattle.outqueue.proofs.shares.laws_of_shares.Goals as goal

pub returns-clause-once_new : goal.returns-clause-once_new
returns-clause-once_new c = tt

pub returns-clause-once_put : goal.returns-clause-once_put
returns-clause-once_put c = StandOnce-put

pub returns-clause-once_take : goal.returns-clause-once_take
returns-clause-once_take c = StandOnce-after_line

pub returns-clause-once_drain : goal.returns-clause-once_drain
returns-clause-once_drain c = StandOnce-after

pub returns-clause-once_keep : goal.returns-clause-once_keep
returns-clause-once_keep c = λ q counts once. StandOnce-take counts.mode q.mode once

pub returns-clause-once_clear : goal.returns-clause-once_clear
returns-clause-once_clear c = StandOnce-without

pub returns-clause-fair_new : goal.returns-clause-fair_new
returns-clause-fair_new c = λ target. omega arith

pub returns-clause-fair_put : goal.returns-clause-fair_put
returns-clause-fair_put c = IsFair-put

pub returns-clause-fair_take : goal.returns-clause-fair_take
returns-clause-fair_take c = IsFair-after_line

pub returns-clause-fair_drain : goal.returns-clause-fair_drain
returns-clause-fair_drain c = IsFair-after

pub returns-clause-fair_keep : goal.returns-clause-fair_keep
returns-clause-fair_keep c = IsFair-with_first

pub returns-clause-fair_clear : goal.returns-clause-fair_clear
returns-clause-fair_clear c = IsFair-without
