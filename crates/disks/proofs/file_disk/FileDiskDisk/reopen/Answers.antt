use Rattle.std.proofs.Common.{ℕ, List, sym, ◌∙◌, ap, subst}
use Rattle.disks.specs.Events.{Images}
use Rattle.disks.specs.Laws.{images_seen}
use Rattle.disks.specs.Files.{FileState}
use Rattle.disks.proofs.file_disk.FileDiskDisk.reopen.Goals as goal

pub returns-clause-left : goal.returns-clause-left
returns-clause-left c =
    let now = c.args.self.now.mirror in
    subst (λ (l : List ℕ). Images now.events now.content l)
    (sym (c.reopen.ensures.same.seen ∙ ap (λ (d : FileState). d.mirror.content) c.self.view_is)) (images_seen now.events now.content)
