use Rattle.eggprocs.specs.declared.proc_name.ProcName.TheVariants as which
use Rattle.eggprocs.specs.Laws.{IsInCallersName}
use Rattle.eggprocs.proofs.AskLemmas.{asks-only, edits-named, bans-named, plus_user-wanted, minus_user-wanted, plus_host-wanted, minus_host-wanted, chattr-wanted, stick-wanted, unstick-wanted, info-wanted, ban-wanted, unban-wanted}
use Rattle.eggprocs.proofs.EveryAsk.{all-asks}
use Rattle.eggprocs.proofs.laws.changes_are_in_the_callers_name.Goals as goal

pub returns-clause-plus_user : goal.returns-clause-plus_user
returns-clause-plus_user c = λ call seen reply kept. asks-only which.PlusUser IsInCallersName (plus_user-wanted IsInCallersName edits-named) call seen reply kept

pub returns-clause-minus_user : goal.returns-clause-minus_user
returns-clause-minus_user c = λ call seen reply kept. asks-only which.MinusUser IsInCallersName (minus_user-wanted IsInCallersName edits-named) call seen reply kept

pub returns-clause-plus_host : goal.returns-clause-plus_host
returns-clause-plus_host c = λ call seen reply kept. asks-only which.PlusHost IsInCallersName (plus_host-wanted IsInCallersName edits-named) call seen reply kept

pub returns-clause-minus_host : goal.returns-clause-minus_host
returns-clause-minus_host c = λ call seen reply kept. asks-only which.MinusHost IsInCallersName (minus_host-wanted IsInCallersName edits-named) call seen reply kept

pub returns-clause-chattr : goal.returns-clause-chattr
returns-clause-chattr c = λ call seen reply kept. asks-only which.Chattr IsInCallersName (chattr-wanted IsInCallersName edits-named) call seen reply kept

pub returns-clause-stick : goal.returns-clause-stick
returns-clause-stick c = λ call seen reply kept. asks-only which.Stick IsInCallersName (stick-wanted IsInCallersName edits-named) call seen reply kept

pub returns-clause-unstick : goal.returns-clause-unstick
returns-clause-unstick c = λ call seen reply kept. asks-only which.Unstick IsInCallersName (unstick-wanted IsInCallersName edits-named) call seen reply kept

pub returns-clause-info : goal.returns-clause-info
returns-clause-info c = λ call seen reply kept. asks-only which.Info IsInCallersName (info-wanted IsInCallersName edits-named) call seen reply kept

pub returns-clause-ban : goal.returns-clause-ban
returns-clause-ban c = λ call seen reply kept. asks-only which.Ban IsInCallersName (ban-wanted IsInCallersName bans-named) call seen reply kept

pub returns-clause-unban : goal.returns-clause-unban
returns-clause-unban c = λ call seen reply kept. asks-only which.Unban IsInCallersName (unban-wanted IsInCallersName bans-named) call seen reply kept

pub returns-clause-all : goal.returns-clause-all
returns-clause-all c = all-asks
