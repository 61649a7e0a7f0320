use Rattle.serverlink.proofs.InquiryLemmas.{asked_once, none_unannounced, none_unnotified}
use Rattle.serverlink.proofs.laws.laws_of_the_questions.Goals as goal

pub returns-clause-once : goal.returns-clause-once
returns-clause-once c = asked_once

pub returns-clause-unannounced : goal.returns-clause-unannounced
returns-clause-unannounced c = none_unannounced

pub returns-clause-stale : goal.returns-clause-stale
returns-clause-stale c = none_unnotified
