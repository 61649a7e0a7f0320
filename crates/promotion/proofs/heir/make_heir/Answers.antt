use Rattle.std.proofs.Common.{subst}
use Rattle.botjournal.specs.declared.base.Base.{Base}
use Rattle.botjournal.specs.Contents.{new_contents}
use Rattle.botjournal.specs.Ledger.{Account, Leaves, settled}
use Rattle.promotion.proofs.Heirs.{promotes}
use Rattle.promotion.proofs.heir.make_heir.Goals as goal

pub returns-in-Ok-clause-journal : goal.returns-in-Ok-clause-journal
returns-in-Ok-clause-journal g c =
    let first = g.D.Disk.state c.into_disks.result.first in
    let second = g.D.Disk.state c.into_disks.result.second in
    subst (λ (b : Base). Leaves first second (settled (new_contents b))) c.in_ok-base.ensures.base
    (subst (λ (a : Account). Leaves first second a) c.in-Ok.ensures.row c.into_disks.ensures.left)

pub returns-in-Ok-clause-promotes : goal.returns-in-Ok-clause-promotes
returns-in-Ok-clause-promotes g c =
    let first = g.D.Disk.state c.into_disks.result.first in
    let second = g.D.Disk.state c.into_disks.result.second in
    promotes c.args.leaf.now first second c.know.ensures.leaf
    (subst (λ (b : Base). Leaves first second (settled (new_contents b))) c.in_ok-base.ensures.base
    (subst (λ (a : Account). Leaves first second a) c.in-Ok.ensures.row c.into_disks.ensures.left))
