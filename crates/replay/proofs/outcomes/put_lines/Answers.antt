use Rattle.std.proofs.Common.{arith}
use Rattle.recordtext.proofs.Lines.{lines-more}
use Rattle.replay.specs.Text.{out_line}
use Rattle.replay.proofs.outcomes.put_lines.Goals as goal

pub loop-line-preserved : goal.loop-line-preserved
loop-line-preserved c =
    lines-more (out_line c.args.bot) c.args.lines.now c.loop-line.line-index c.line-item.result c.loop-line.out.items _ _ (omega arith) c.line-item.is
    c.in_ok-put_line.ensures c.loop-line.invariant
