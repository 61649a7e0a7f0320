use Rattle.std.proofs.Common.{arith}
use Rattle.recordtext.proofs.Lines.{lines-more}
use Rattle.replay.specs.Text.{fault_line}
use Rattle.replay.proofs.outcomes.put_faults.Goals as goal

pub loop-fault-preserved : goal.loop-fault-preserved
loop-fault-preserved c =
    lines-more (fault_line c.args.bot) c.args.faults.now c.loop-fault.fault-index c.fault-item.result c.loop-fault.out.items _ _ (omega arith)
    c.fault-item.is c.in_ok-put_fault.ensures c.loop-fault.invariant
