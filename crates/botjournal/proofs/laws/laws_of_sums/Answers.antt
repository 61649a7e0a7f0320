use Rattle.botjournal.proofs.MeaningLaws.{all_carried}
use Rattle.botjournal.proofs.laws.laws_of_sums.Goals as goal

pub returns : goal.returns
returns c = record { carried = all_carried }
