use Rattle.std.proofs.Common.{◌≡◌, refl}
use Rattle.botjournal.specs.Ledger.{Device, device_on}
use Rattle.botjournal.specs.Stores.{account_of}
use Rattle.botjournal.proofs.LedgerLaws.{stand_leaves, device_again}
use Rattle.botjournal.proofs.ledger.Ledger.into_disks.Goals as goal

pub returns : goal.returns
returns g c =
    let state = g.D.Disk.state in
    let inside = c.self.inside in
    rw (← c.self.view_is)
    (record {
      left = stand_leaves state inside.down inside.store (account_of state inside.rested.value inside.doubt inside.down) c.into_disks.result
          c.self.invariant c.into_disks.ensures;
      device = device_again state inside.store c.into_disks.result
          (λ (d : Device). device_on (state c.into_disks.result.first) (state c.into_disks.result.second) ≡ d) c.into_disks.ensures refl;
    })
