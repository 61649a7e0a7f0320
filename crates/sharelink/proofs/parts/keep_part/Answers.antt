use Rattle.std.proofs.Common.{ap, ◌∙◌, arith, length}
use Rattle.protocol.specs.Snapshots.{PartSet}
use Rattle.sharelink.proofs.PartLaws.{no_places-length}
use Rattle.sharelink.proofs.parts.keep_part.Goals as goal

pub put-requires-in-Some-2-clause-numbered : goal.put-requires-in-Some-2-clause-numbered
put-requires-in-Some-2-clause-numbered c =
    let many = ap (λ (s : PartSet). length s.parts) c.in_ok-set-in-Some-2.ensures ∙ no_places-length c.args.count in
    (c.requires.numbered.0, omega (arith, c.requires.numbered.0, c.requires.numbered.1, many))
