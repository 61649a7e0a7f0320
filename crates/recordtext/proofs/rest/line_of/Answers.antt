use Rattle.std.proofs.Common.{◌∙◌, ap, arith, ◌++◌, [], get_or}
use Rattle.recordtext.proofs.Rests.{line_of-more}
use Rattle.recordtext.proofs.rest.line_of.Goals as goal

pub loop-word-preserved : goal.loop-word-preserved
loop-word-preserved c =
    line_of-more c.args.first.now c.args.rest.now c.loop-word.word-index (record { ref_ptr = (0, 0); now = [] }) c.loop-word.line.items _ (omega arith)
    c.loop-word.invariant
    (c.in_ok-extend_from_slice.ensures.items
    ∙ ap (λ l. l ++ (get_or c.args.rest.now c.loop-word.word-index (record { ref_ptr = (0, 0); now = [] })).now) c.in_ok-push.ensures.items)
