use Rattle.botjournal.specs.Stores.{account_of}
use Rattle.botjournal.proofs.LedgerLaws.{stand_leaves_now}
use Rattle.botjournal.proofs.ledger.Ledger.know_disks.Goals as goal

pub returns : goal.returns
returns g c =
    let state = g.D.Disk.state in
    let inside = c.self.inside in
    rw (← c.self.view_is)
    (record {
      left = stand_leaves_now state inside.down inside.store (account_of state inside.rested.value inside.doubt inside.down) c.self.invariant;
    })
