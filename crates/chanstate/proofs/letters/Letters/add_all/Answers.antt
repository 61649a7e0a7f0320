use Rattle.std.proofs.Common.{◌<◌, ◌+◌, ◌∙◌, drop, length, sym, ap, arith}
use Rattle.std.proofs.lemmas.List.{at_drop_more, at_drop_all}
use Rattle.chanstate.specs.Announced.{with_letters}
use Rattle.chanstate.proofs.letters.Letters.add_all.Goals as goal

pub loop-byte-preserved : goal.loop-byte-preserved
loop-byte-preserved c =
    let at = c.loop-byte in
    let less : at.byte-index < length c.args.text.now = omega arith in
    ap (with_letters (drop (at.byte-index + 1) c.args.text.now)) c.add.ensures
    ∙ sym (at_drop_more (λ bs. with_letters bs at.self) c.args.text.now at.byte-index 0 less)
    ∙ at.invariant

pub returns : goal.returns
returns c =
    let at = c.loop-byte in
    sym (at_drop_all (λ bs. with_letters bs at.self) c.args.text.now at.byte-index (omega arith)) ∙ at.invariant
