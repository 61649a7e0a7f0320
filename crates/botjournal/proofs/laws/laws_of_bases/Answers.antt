use Rattle.botjournal.proofs.BaseLaws.{base_again, base_again_by, base_good}
use Rattle.botjournal.proofs.laws.laws_of_bases.Goals as goal

pub returns : goal.returns
returns c = record { again = base_again; again_old = base_again_by; writable = base_good }
