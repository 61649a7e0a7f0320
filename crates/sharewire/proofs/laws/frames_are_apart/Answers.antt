use Rattle.sharewire.proofs.StreamLaws.{apart}
use Rattle.sharewire.proofs.laws.frames_are_apart.Goals as goal

pub returns : goal.returns
returns c = apart
