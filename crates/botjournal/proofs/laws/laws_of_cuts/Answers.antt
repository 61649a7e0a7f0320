use Rattle.botjournal.proofs.CutLaws.{cut_carries, uncut}
use Rattle.botjournal.proofs.laws.laws_of_cuts.Goals as goal

pub returns : goal.returns
returns c = record { carried = cut_carries; few = uncut }
