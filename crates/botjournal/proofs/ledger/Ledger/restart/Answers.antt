use Rattle.std.proofs.Common.{None, Some, refl, subst}
use Rattle.bytejournal.specs.Journal.{first_disk, second_disk}
use Rattle.botjournal.specs.Journal.{IsEither}
use Rattle.botjournal.specs.Ledger.{AtEachMoment, Reopens, counted, device_on}
use Rattle.botjournal.specs.Stores.{AreIn, account_of}
use Rattle.botjournal.proofs.LedgerLaws.{stand_leaves, again_whole, again_leaves, opened_goes, restart_finds, restart_stays, again_moments, again_opened, device_again}
use Rattle.botjournal.proofs.ledger.Ledger.restart.Goals as goal

pub invariant_of-self : goal.invariant_of-self
invariant_of-self g c =
    let state = g.D.Disk.state in
    let inside = c.self.inside in
    let disks = c.into_disks-disks.result in
    let account = account_of state inside.rested.value inside.doubt inside.down in
    let leaves = stand_leaves state inside.down inside.store account disks c.self.invariant
    (subst (λ s. AreIn s disks) c.replace.ensures.value c.into_disks-disks.ensures) in
    let row = c.in-Ok.ensures.row in
    rw c.of.ensures
    (opened_goes state row.0 row.1 c.in-Ok.opened None refl (again_whole state disks.first disks.second account leaves c.in-Ok.opened row) row.4)

pub invariant_of-self-in-Err : goal.invariant_of-self-in-Err
invariant_of-self-in-Err g c =
    let state = g.D.Disk.state in
    let inside = c.self.inside in
    let disks = c.into_disks-disks.result in
    let account = account_of state inside.rested.value inside.doubt inside.down in
    let leaves = stand_leaves state inside.down inside.store account disks c.self.invariant
    (subst (λ s. AreIn s disks) c.replace.ensures.value c.into_disks-disks.ensures) in
    again_leaves state disks.first disks.second account leaves c.in-Err.returned c.in-Err.ensures.row

pub returns-in-Ok-clause-row : goal.returns-in-Ok-clause-row
returns-in-Ok-clause-row g c =
    let state = g.D.Disk.state in
    let inside = c.self.inside in
    let disks = c.into_disks-disks.result in
    let account = account_of state inside.rested.value inside.doubt inside.down in
    let leaves = stand_leaves state inside.down inside.store account disks c.self.invariant
    (subst (λ s. AreIn s disks) c.replace.ensures.value c.into_disks-disks.ensures) in
    rw (← c.self.view_is, c.of.ensures) (restart_finds state disks.first disks.second account leaves c.in-Ok.opened c.in-Ok.ensures.row)

pub returns-in-Err-clause-row : goal.returns-in-Err-clause-row
returns-in-Err-clause-row g c =
    let state = g.D.Disk.state in
    let inside = c.self.inside in
    let disks = c.into_disks-disks.result in
    let account = account_of state inside.rested.value inside.doubt inside.down in
    let held = subst (λ s. AreIn s disks) c.replace.ensures.value c.into_disks-disks.ensures in
    let leaves = stand_leaves state inside.down inside.store account disks c.self.invariant held in
    restart_stays state inside.store disks account c.in-Err.returned held leaves c.in-Err.ensures.row c.args.self.now c.self.view_is c.read_error.result
    c.read_error.ensures

pub returns-in-Ok-clause-any_moment : goal.returns-in-Ok-clause-any_moment
returns-in-Ok-clause-any_moment g c =
    let state = g.D.Disk.state in
    let inside = c.self.inside in
    let disks = c.into_disks-disks.result in
    let account = account_of state inside.rested.value inside.doubt inside.down in
    let held = subst (λ s. AreIn s disks) c.replace.ensures.value c.into_disks-disks.ensures in
    let leaves = stand_leaves state inside.down inside.store account disks c.self.invariant held in
    let row = c.in-Ok.ensures.row in
    rw (← c.self.view_is)
    (device_again state inside.store disks
    (λ d. AtEachMoment d (device_on (state (first_disk c.in-Ok.opened.journal)) (state (second_disk c.in-Ok.opened.journal))) (IsEither (Some account.contents) (Some (counted account)))) held
    (again_moments state (state disks.first) (state disks.second) (state row.0) (state row.1) (state (first_disk c.in-Ok.opened.journal))
    (state (second_disk c.in-Ok.opened.journal)) account leaves row.2 row.3 row.4.1 row.4.2))

pub returns-in-Ok-clause-reopened : goal.returns-in-Ok-clause-reopened
returns-in-Ok-clause-reopened g c =
    let state = g.D.Disk.state in
    let inside = c.self.inside in
    let disks = c.into_disks-disks.result in
    let held = subst (λ s. AreIn s disks) c.replace.ensures.value c.into_disks-disks.ensures in
    let row = c.in-Ok.ensures.row in
    rw (← c.self.view_is)
    (device_again state inside.store disks (λ d. Reopens d (device_on (state (first_disk c.in-Ok.opened.journal)) (state (second_disk c.in-Ok.opened.journal)))) held
    (again_opened state (state disks.first) (state disks.second) (state row.0) (state row.1) (state (first_disk c.in-Ok.opened.journal))
    (state (second_disk c.in-Ok.opened.journal)) row.2 row.3 row.4.1 row.4.2))

pub returns-in-Err-clause-any_moment : goal.returns-in-Err-clause-any_moment
returns-in-Err-clause-any_moment g c =
    let state = g.D.Disk.state in
    let inside = c.self.inside in
    let disks = c.into_disks-disks.result in
    let account = account_of state inside.rested.value inside.doubt inside.down in
    let held = subst (λ s. AreIn s disks) c.replace.ensures.value c.into_disks-disks.ensures in
    let leaves = stand_leaves state inside.down inside.store account disks c.self.invariant held in
    let row = c.in-Err.ensures.row in
    rw (← c.self.view_is)
    (device_again state inside.store disks
    (λ d. AtEachMoment d (device_on (state (c.in-Err.returned.disks.first)) (state (c.in-Err.returned.disks.second))) (IsEither (Some account.contents) (Some (counted account)))) held
    (again_moments state (state disks.first) (state disks.second) (state row.0) (state row.1) (state (c.in-Err.returned.disks.first))
    (state (c.in-Err.returned.disks.second)) account leaves row.2 row.3 row.4.1 row.4.2))

pub returns-in-Err-clause-reopened : goal.returns-in-Err-clause-reopened
returns-in-Err-clause-reopened g c =
    let state = g.D.Disk.state in
    let inside = c.self.inside in
    let disks = c.into_disks-disks.result in
    let held = subst (λ s. AreIn s disks) c.replace.ensures.value c.into_disks-disks.ensures in
    let row = c.in-Err.ensures.row in
    rw (← c.self.view_is)
    (device_again state inside.store disks (λ d. Reopens d (device_on (state (c.in-Err.returned.disks.first)) (state (c.in-Err.returned.disks.second)))) held
    (again_opened state (state disks.first) (state disks.second) (state row.0) (state row.1) (state (c.in-Err.returned.disks.first))
    (state (c.in-Err.returned.disks.second)) row.2 row.3 row.4.1 row.4.2))
