use Rattle.eggprocs.proofs.LawLemmas.{whois-known, whois-stranger, whois-strangers}
use Rattle.eggprocs.proofs.MaskLemmas.{names-the-decider}
use Rattle.eggprocs.proofs.laws.whois_names_whom_binds_know.Goals as goal

pub returns : goal.returns
returns c = record { known = whois-known; masks = names-the-decider; strangers = whois-stranger; masters = whois-strangers }
