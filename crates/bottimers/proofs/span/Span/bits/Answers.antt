use Rattle.std.proofs.Common.{arith}
use Rattle.bottimers.proofs.CronBits.{has_more, has_same}
use Rattle.bottimers.proofs.span.Span.bits.Goals.{then-n-self-eq0, else-n-self-eq0}
use Rattle.bottimers.proofs.span.Span.bits.Goals as goal

pub loop-n-preserved : goal.loop-n-preserved
loop-n-preserved c =
    elim c.if-n-self-eq0.branch [
      | then-n-self-eq0 w ↦
          rw w.set-is
          (has_more c.args.self.now c.loop-n.set c.loop-n.n (omega arith) c.loop-n.auto.n (omega arith) w.if-n-self-eq0.true c.loop-n.invariant)
      | else-n-self-eq0 w ↦
          rw w.set-is (has_same c.args.self.now c.loop-n.set c.loop-n.n w.if-n-self-eq0.false c.loop-n.invariant)
    ]
