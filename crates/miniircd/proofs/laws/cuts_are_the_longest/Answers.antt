use Rattle.miniircd.proofs.CutLemmas.{cut_longest}
use Rattle.miniircd.proofs.laws.cuts_are_the_longest.Goals as goal

pub returns : goal.returns
returns c = cut_longest
