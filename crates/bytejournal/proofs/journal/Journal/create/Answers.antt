use Rattle.std.proofs.Common.{refl, sym, ◌∙◌, ap, subst}
use Rattle.disks.specs.State.{State, IsSettled}
use Rattle.bytejournal.specs.Gates.{with_first}
use Rattle.bytejournal.specs.Meaning.{held}
use Rattle.bytejournal.proofs.Creating.{new_at_rest, new_counts}
use Rattle.bytejournal.proofs.journal.Journal.create.Goals as goal

pub returns-in-Ok : goal.returns-in-Ok
returns-in-Ok g c =
    let state = g.D.Disk.state in
    let first = c.end_reads.new.self in
    let second = c.end_reads-in-Ok.new.self in
    let e = c.in-Ok.ensures in
    let one = ap (λ (s : State). s.seen) c.end_reads.ensures ∙ e.0 in
    let two = ap (λ (s : State). s.seen) c.end_reads-in-Ok.ensures ∙ e.1 in
    let settled = subst IsSettled (sym c.end_reads.ensures) e.2 in
    let settled' = subst IsSettled (sym c.end_reads-in-Ok.ensures) e.3 in (
      refl,
      new_at_rest g.D.Disk.state first second c.args.layout c.args.base.now (with_first (g.D.Disk.state c.args.first).seen 0)
          (g.D.Disk.state c.args.second).seen c.requires.small one two settled settled' _ refl,
      new_counts g.D.Disk.state first second c.args.layout c.args.base.now (with_first (g.D.Disk.state c.args.first).seen 0)
          (g.D.Disk.state c.args.second).seen c.requires.small one two settled settled' _ refl,
      ap held two,
    )
