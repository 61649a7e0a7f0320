use Rattle.bytejournal.proofs.Moments.{untouched_still}
use Rattle.botjournal.proofs.cut_short.is_cut_short.Goals as goal

pub returns-in_err-a-clause-second : goal.returns-in_err-a-clause-second
returns-in_err-a-clause-second g c = untouched_still _ c.requires.second_settled
