use Rattle.bytejournal.proofs.UnmadeLemmas.{made}
use Rattle.bytejournal.proofs.unmade.law_of_unmade_disks.Goals as goal

pub returns : goal.returns
returns c = record { made = made }
