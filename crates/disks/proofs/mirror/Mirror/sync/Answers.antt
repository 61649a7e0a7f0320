use Rattle.std.proofs.Common.{refl, sym, ap}
use Rattle.disks.specs.Memory.{Memory}
use Rattle.disks.proofs.Told.{told_sync}
use Rattle.disks.proofs.mirror.Mirror.sync.Goals as goal

pub returns-clause-same : goal.returns-clause-same
returns-clause-same c =
    told_sync c.args.self.now c.self.inside.found.value.items c.note.new.self.events c.self.inside.told.events _ _ _
    (ap (λ (m : Memory). m.events) (sym c.self.view_is)) (ap (λ (m : Memory). m.content) (sym c.self.view_is)) c.note.ensures refl refl refl
