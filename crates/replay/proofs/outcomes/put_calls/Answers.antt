use Rattle.std.proofs.Common.{arith}
use Rattle.recordtext.proofs.Lines.{lines-more}
use Rattle.replay.specs.Text.{call_line}
use Rattle.replay.proofs.outcomes.put_calls.Goals as goal

pub loop-call-preserved : goal.loop-call-preserved
loop-call-preserved c =
    lines-more (call_line c.args.bot) c.args.calls.now c.loop-call.call-index c.call-item.result c.loop-call.out.items _ _ (omega arith) c.call-item.is
    c.in_ok-put_call.ensures c.loop-call.invariant
