use Rattle.std.proofs.Common.{sym, subst}
use Rattle.sharelink.specs.Shapes.{AreGood}
use Rattle.turns.proofs.PacketLemmas.{DrivesTo_good}
use Rattle.turns.proofs.driving.drive.Goals as goal

pub returns-clause-good : goal.returns-clause-good
returns-clause-good g c =
    subst AreGood (sym c.new.ensures)
    (DrivesTo_good c.drive_with-end.result g.P.Promise.promised c.args.store.now c.args.now _ _ _ _ c.drive_with-end.ensures)
