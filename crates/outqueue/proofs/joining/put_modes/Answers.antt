use Rattle.std.proofs.Common.{◌++◌, ap, ◌∙◌, arith}
use Rattle.outqueue.specs.Joining.{mode_of}
use Rattle.outqueue.proofs.JoiningLemmas.{one_more}
use Rattle.outqueue.proofs.joining.put_modes.Goals as goal

pub loop-one-preserved : goal.loop-one-preserved
loop-one-preserved c =
    one_more mode_of c.args.lines.now c.loop-one.one-index _ _ _ _ (omega arith) c.one-item.is c.loop-one.invariant
    (c.in_ok-extend_from_slice.ensures.items ∙ ap (λ xs. c.loop-one.line.items ++ xs) (c.mode_of.ensures ∙ ap mode_of c.as_bytes.ensures))
