use Rattle.procs.proofs.IdentityLemmas.{handle_by-claim, handle_by-account, handle_by-address, known-empty, match-names, claim_by-person}
use Rattle.procs.proofs.identity.laws_of_identity.Goals as goal

pub returns : goal.returns
returns c = record { found = handle_by-claim; accounts = handle_by-account; addresses = handle_by-address; strangers = known-empty; names = match-names; persons = claim_by-person }
