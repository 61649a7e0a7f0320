use Rattle.std.proofs.Common.{arith}
use Rattle.recordtext.specs.Text.{host_line}
use Rattle.recordtext.proofs.Lines.{lines-more}
use Rattle.recordtext.proofs.records.put_hosts.Goals as goal

pub loop-mask-preserved : goal.loop-mask-preserved
loop-mask-preserved c =
    lines-more (host_line c.args.bot c.args.handle.now) c.args.masks.now c.loop-mask.mask-index c.mask-item.result c.loop-mask.out.items _ _ (omega arith)
    c.mask-item.is c.in_ok-put_host.ensures c.loop-mask.invariant
