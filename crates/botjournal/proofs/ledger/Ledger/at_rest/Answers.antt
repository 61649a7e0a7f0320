use Rattle.botjournal.proofs.LedgerLaws.{rest_goes}
use Rattle.botjournal.proofs.ledger.Ledger.at_rest.Goals as goal

pub invariant_of-result : goal.invariant_of-result
invariant_of-result g c = rw c.of.ensures (rest_goes g.D.Disk.state c.args.journal c.requires.going c.requires.rest)
