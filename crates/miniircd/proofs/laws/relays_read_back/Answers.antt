use Rattle.miniircd.proofs.PrintedLemmas.{relay_reads}
use Rattle.miniircd.proofs.laws.relays_read_back.Goals as goal

pub returns : goal.returns
returns c = relay_reads
