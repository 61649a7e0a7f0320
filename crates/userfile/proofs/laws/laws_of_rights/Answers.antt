use Rattle.userfile.proofs.RankLemmas.{allowed, step, runs, since, persons}
use Rattle.userfile.proofs.OwnerLemmas.{owner}
use Rattle.userfile.proofs.laws.laws_of_rights.Goals as goal

pub returns-clause-allowed : goal.returns-clause-allowed
returns-clause-allowed c = λ old change asker asks free. allowed old change asker asks free

pub returns-clause-step : goal.returns-clause-step
returns-clause-step c = λ old change asker sound asks free none. step old change asker sound asks free none

pub returns-clause-runs : goal.returns-clause-runs
returns-clause-runs c = λ old changes sound taken others. runs old changes sound taken others

pub returns-clause-persons : goal.returns-clause-persons
returns-clause-persons c = λ old changes asker sound taken others none. persons old changes asker sound taken others none

pub returns-clause-since : goal.returns-clause-since
returns-clause-since c = λ changes version each sound others. since changes version each sound others

pub returns-clause-owner : goal.returns-clause-owner
returns-clause-owner c = λ old change asker sound asks free some. owner old change asker sound asks free some
