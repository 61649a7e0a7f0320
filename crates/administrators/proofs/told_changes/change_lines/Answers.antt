use Rattle.std.proofs.Common.{◌∙◌, ◌++◌, ap, arith}
use Rattle.administrators.proofs.ToldLemmas.{all_lines, one_line_more}
use Rattle.administrators.proofs.told_changes.change_lines.Goals as goal

pub loop-place-preserved : goal.loop-place-preserved
loop-place-preserved c =
    one_line_more c.args.first c.loop-place.place c.args.told.now c.index-told-place.result c.loop-place.lines.items
    c.in_ok-line.line.items c.extend_from_slice.new.self.items (omega arith) c.index-told-place.is c.in_ok-line.ensures
    (c.in_ok-extend_from_slice.ensures.items ∙ ap (λ text. c.loop-place.lines.items ++ text) c.as_slice.ensures.value)
    c.loop-place.invariant

pub returns : goal.returns
returns c =
    all_lines c.args.first c.loop-place.place c.args.told.now c.loop-place.lines.items (omega arith) c.loop-place.invariant
