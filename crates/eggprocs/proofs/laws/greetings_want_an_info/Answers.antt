use Rattle.eggprocs.proofs.LawLemmas.{greet-law}
use Rattle.eggprocs.proofs.laws.greetings_want_an_info.Goals as goal

pub returns : goal.returns
returns c = record { greet = greet-law }
