use Rattle.std.proofs.Common.{arith, []}
use Rattle.script.proofs.Sayings.{now_of, so_far-more, breaks-more}
use Rattle.script.proofs.Whys.{fault-reads, fault-tells, why-at}
use Rattle.script.proofs.reading.script_of.Goals as goal

pub loop-place-preserved : goal.loop-place-preserved
loop-place-preserved c =
    so_far-more c.args.lines.now c.loop-place.place (record { ref_ptr = (0, 0); now = [] }) _ _ _ _ (omega arith) c.loop-place.invariant
    c.in_ok-saying.ensures.saying c.if-not-branch.false c.in_ok-go_on.ensures

pub returns-then-not-branch-clause-reads : goal.returns-then-not-branch-clause-reads
returns-then-not-branch-clause-reads c =
    fault-reads (now_of c.args.lines.now) _ _ _ c.fault_at.ensures
    (breaks-more c.args.lines.now c.loop-place.place (record { ref_ptr = (0, 0); now = [] }) _ _ _ _ (omega arith) c.loop-place.invariant
    c.in_ok-saying.ensures.saying c.if-not-branch.true c.in_ok-go_on.ensures)

pub returns-then-not-branch-clause-reasons : goal.returns-then-not-branch-clause-reasons
returns-then-not-branch-clause-reasons c =
    fault-tells (now_of c.args.lines.now) _ _ _ c.fault_at.ensures
    (why-at c.args.lines.now c.loop-place.place (record { ref_ptr = (0, 0); now = [] }) _ _ _ (omega arith) c.loop-place.invariant
    c.in_ok-saying.ensures.saying c.order_reason-order.ensures)
