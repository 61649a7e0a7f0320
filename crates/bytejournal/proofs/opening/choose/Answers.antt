use Rattle.std.proofs.Common.{◌∙◌, ap, subst, None, Some}
use Rattle.bytejournal.specs.Meaning.{held, chosen}
use Rattle.bytejournal.specs.Meaning.Held.{Open}
use Rattle.bytejournal.specs.Reading.{Reads, IsFound}
use Rattle.bytejournal.proofs.Pairs.{newer}
use Rattle.bytejournal.proofs.Choosing.{shut_held, shut_is_idle, found_is_idle, found_contents, found_held, none_newer, opens_first, opens_second}
use Rattle.bytejournal.proofs.opening.choose.Goals as goal

pub returns-in-Open-Shut : goal.returns-in-Open-Shut
returns-in-Open-Shut g c =
    let state = g.D.Disk.state in
    let shut = subst (λ r. Reads (g.D.Disk.state c.args.second).seen r) c.in-Open-Shut.is-1 c.requires.second_reads in
    opens_first g.D.Disk.state c.args.first c.args.second c.are_inside-whole.result c.in-Open-Shut.a None 0 c.open_found.result c.open_found.ensures
    (subst (λ r. Reads (g.D.Disk.state c.args.first).seen r) c.in-Open-Shut.is-0 c.requires.first_reads)
    (shut_held (g.D.Disk.state c.args.second).seen shut)
    (ap (chosen (Open (found_contents c.in-Open-Shut.a))) (shut_held (g.D.Disk.state c.args.second).seen shut))
    (shut_is_idle c.in-Open-Shut.a.generation (g.D.Disk.state c.args.second).seen shut) c.are_inside-whole.ensures

pub returns-in-Shut-Open : goal.returns-in-Shut-Open
returns-in-Shut-Open g c =
    let shut = subst (λ r. Reads (g.D.Disk.state c.args.first).seen r) c.in-Shut-Open.is-0 c.requires.first_reads in
    opens_second g.D.Disk.state c.args.first c.args.second c.are_inside-whole-in-Shut-Open.result c.in-Shut-Open.b None 0
    c.open_found-in-Shut-Open.result c.open_found-in-Shut-Open.ensures
    (subst (λ r. Reads (g.D.Disk.state c.args.second).seen r) c.in-Shut-Open.is-1 c.requires.second_reads)
    (shut_held (g.D.Disk.state c.args.first).seen shut)
    (ap (chosen (Open (found_contents c.in-Shut-Open.b))) (shut_held (g.D.Disk.state c.args.first).seen shut))
    (shut_is_idle c.in-Shut-Open.b.generation (g.D.Disk.state c.args.first).seen shut) c.are_inside-whole-in-Shut-Open.ensures

pub returns-then-b-a : goal.returns-then-b-a
returns-then-b-a g c =
    let a = c.in-Open-Open.a in
    let b = c.in-Open-Open.b in
    let one : IsFound (g.D.Disk.state c.args.first).seen a =
    subst (λ r. Reads (g.D.Disk.state c.args.first).seen r) c.in-Open-Open.is-0 c.requires.first_reads in
    let two : IsFound (g.D.Disk.state c.args.second).seen b =
    subst (λ r. Reads (g.D.Disk.state c.args.second).seen r) c.in-Open-Open.is-1 c.requires.second_reads in
    opens_first g.D.Disk.state c.args.first c.args.second c.are_inside-whole-then-b-a.result a (Some b) b.gate c.open_found-then-b-a.result
    c.open_found-then-b-a.ensures one (found_held (g.D.Disk.state c.args.second).seen b two)
    (ap (chosen (Open (found_contents a))) (found_held (g.D.Disk.state c.args.second).seen b two) ∙ newer (found_contents a) (found_contents b) c.if-b-a.true)
    (found_is_idle a.generation (g.D.Disk.state c.args.second).seen b two c.if-b-a.true) c.are_inside-whole-then-b-a.ensures

pub returns-then-a-b : goal.returns-then-a-b
returns-then-a-b g c =
    let a = c.in-Open-Open.a in
    let b = c.in-Open-Open.b in
    let one : IsFound (g.D.Disk.state c.args.first).seen a =
    subst (λ r. Reads (g.D.Disk.state c.args.first).seen r) c.in-Open-Open.is-0 c.requires.first_reads in
    let two : IsFound (g.D.Disk.state c.args.second).seen b =
    subst (λ r. Reads (g.D.Disk.state c.args.second).seen r) c.in-Open-Open.is-1 c.requires.second_reads in
    opens_second g.D.Disk.state c.args.first c.args.second c.are_inside-whole-then-a-b.result b (Some a) a.gate c.open_found-then-a-b.result
    c.open_found-then-a-b.ensures two (found_held (g.D.Disk.state c.args.first).seen a one)
    (ap (chosen (Open (found_contents b))) (found_held (g.D.Disk.state c.args.first).seen a one) ∙ newer (found_contents b) (found_contents a) c.if-a-b.true)
    (found_is_idle b.generation (g.D.Disk.state c.args.first).seen a one c.if-a-b.true) c.are_inside-whole-then-a-b.ensures

pub returns-else-a-b : goal.returns-else-a-b
returns-else-a-b g c =
    let a = c.in-Open-Open.a in
    let b = c.in-Open-Open.b in
    let one : IsFound (g.D.Disk.state c.args.first).seen a =
    subst (λ r. Reads (g.D.Disk.state c.args.first).seen r) c.in-Open-Open.is-0 c.requires.first_reads in
    let two : IsFound (g.D.Disk.state c.args.second).seen b =
    subst (λ r. Reads (g.D.Disk.state c.args.second).seen r) c.in-Open-Open.is-1 c.requires.second_reads in (
      ap (λ r. r.error) c.no_journal.ensures,
      ap (λ h. chosen h (held (g.D.Disk.state c.args.second).seen)) (found_held (g.D.Disk.state c.args.first).seen a one)
          ∙ ap (chosen (Open (found_contents a))) (found_held (g.D.Disk.state c.args.second).seen b two)
          ∙ none_newer (found_contents a) (found_contents b) c.if-b-a.false c.if-a-b.false,
      ap (λ r. r.disks.first) c.no_journal.ensures,
      ap (λ r. r.disks.second) c.no_journal.ensures,
    )
