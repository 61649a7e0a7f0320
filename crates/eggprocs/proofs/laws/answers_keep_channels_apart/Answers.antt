use Rattle.eggprocs.proofs.LawLemmas.{seen-law}
use Rattle.eggprocs.proofs.laws.answers_keep_channels_apart.Goals as goal

pub returns : goal.returns
returns c = record { seen = seen-law }
