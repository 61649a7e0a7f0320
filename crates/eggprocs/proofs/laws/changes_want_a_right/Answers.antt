use Rattle.eggprocs.specs.declared.proc_name.ProcName.TheVariants as which
use Rattle.eggprocs.specs.Laws.{IsTaken, IsAllowed}
use Rattle.eggprocs.proofs.AskLemmas.{asks-only, edits-taken, bans-allowed, plus_user-wanted, minus_user-wanted, plus_host-wanted, minus_host-wanted, chattr-wanted, stick-wanted, unstick-wanted, info-wanted, ban-wanted, unban-wanted}
use Rattle.eggprocs.proofs.laws.changes_want_a_right.Goals as goal

pub returns-clause-plus_user : goal.returns-clause-plus_user
returns-clause-plus_user c = λ call seen reply kept. asks-only which.PlusUser IsTaken (plus_user-wanted IsTaken edits-taken) call seen reply kept

pub returns-clause-minus_user : goal.returns-clause-minus_user
returns-clause-minus_user c = λ call seen reply kept. asks-only which.MinusUser IsTaken (minus_user-wanted IsTaken edits-taken) call seen reply kept

pub returns-clause-plus_host : goal.returns-clause-plus_host
returns-clause-plus_host c = λ call seen reply kept. asks-only which.PlusHost IsTaken (plus_host-wanted IsTaken edits-taken) call seen reply kept

pub returns-clause-minus_host : goal.returns-clause-minus_host
returns-clause-minus_host c = λ call seen reply kept. asks-only which.MinusHost IsTaken (minus_host-wanted IsTaken edits-taken) call seen reply kept

pub returns-clause-chattr : goal.returns-clause-chattr
returns-clause-chattr c = λ call seen reply kept. asks-only which.Chattr IsTaken (chattr-wanted IsTaken edits-taken) call seen reply kept

pub returns-clause-stick : goal.returns-clause-stick
returns-clause-stick c = λ call seen reply kept. asks-only which.Stick IsTaken (stick-wanted IsTaken edits-taken) call seen reply kept

pub returns-clause-unstick : goal.returns-clause-unstick
returns-clause-unstick c = λ call seen reply kept. asks-only which.Unstick IsTaken (unstick-wanted IsTaken edits-taken) call seen reply kept

pub returns-clause-info : goal.returns-clause-info
returns-clause-info c = λ call seen reply kept. asks-only which.Info IsTaken (info-wanted IsTaken edits-taken) call seen reply kept

pub returns-clause-ban : goal.returns-clause-ban
returns-clause-ban c = λ call seen reply kept. asks-only which.Ban IsAllowed (ban-wanted IsAllowed bans-allowed) call seen reply kept

pub returns-clause-unban : goal.returns-clause-unban
returns-clause-unban c = λ call seen reply kept. asks-only which.Unban IsAllowed (unban-wanted IsAllowed bans-allowed) call seen reply kept
