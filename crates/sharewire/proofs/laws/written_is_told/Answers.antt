use Rattle.sharewire.proofs.StreamLaws.{written}
use Rattle.sharewire.proofs.laws.written_is_told.Goals as goal

pub returns : goal.returns
returns c = written
