use Rattle.registration.proofs.RunLaws.{at_most_once, ends_once, never_named, never_plain, no_end_before, nonce_once, shown_before}
use Rattle.registration.proofs.laws.laws_of_a_registration.Goals as goal

pub returns-clause-once : goal.returns-clause-once
returns-clause-once c = ends_once

pub returns-clause-after_login : goal.returns-clause-after_login
returns-clause-after_login c = no_end_before

pub returns-clause-each_once : goal.returns-clause-each_once
returns-clause-each_once c = at_most_once

pub returns-clause-open_plain : goal.returns-clause-open_plain
returns-clause-open_plain c = never_plain

pub returns-clause-open_name : goal.returns-clause-open_name
returns-clause-open_name c = never_named

pub returns-clause-after_final : goal.returns-clause-after_final
returns-clause-after_final c = shown_before

pub returns-clause-nonce_once : goal.returns-clause-nonce_once
returns-clause-nonce_once c = nonce_once
