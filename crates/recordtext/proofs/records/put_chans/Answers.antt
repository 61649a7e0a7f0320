use Rattle.std.proofs.Common.{arith}
use Rattle.recordtext.specs.Text.{chan_line}
use Rattle.recordtext.proofs.Lines.{lines-more}
use Rattle.recordtext.proofs.records.put_chans.Goals as goal

pub loop-entry-preserved : goal.loop-entry-preserved
loop-entry-preserved c =
    lines-more (chan_line c.args.bot c.args.handle.now) c.args.entries.now c.loop-entry.entry-index c.entry-item.result c.loop-entry.out.items _ _
    (omega arith) c.entry-item.is c.in_ok-put_chan.ensures c.loop-entry.invariant
