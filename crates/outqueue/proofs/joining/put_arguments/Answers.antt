use Rattle.std.proofs.Common.{◌++◌, ap, ◌∙◌, arith}
use Rattle.outqueue.specs.Joining.{spaced_argument}
use Rattle.outqueue.proofs.JoiningLemmas.{one_more}
use Rattle.outqueue.proofs.joining.put_arguments.Goals as goal

pub loop-one-preserved : goal.loop-one-preserved
loop-one-preserved c =
    one_more spaced_argument c.args.lines.now c.loop-one.one-index _ _ _ _ (omega arith) c.one-item.is c.loop-one.invariant
    (c.in_ok-put_argument.ensures ∙ ap (λ xs. c.loop-one.line.items ++ spaced_argument xs) c.as_bytes.ensures)
