use Rattle.miniircd.proofs.CutLemmas.{relayed_canonical}
use Rattle.miniircd.proofs.laws.relays_are_canonical.Goals as goal

pub returns : goal.returns
returns c = relayed_canonical
