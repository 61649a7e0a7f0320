use Rattle.botcore.proofs.AskLemmas.{HasMoreAsks-then, IsActing-call}
use Rattle.botcore.proofs.PutLemmas.{HasMoreLines-then}
use Rattle.botcore.proofs.acting.Doing.act_for.Goals as goal

pub returns-in_err-act_all-clause-kept : goal.returns-in_err-act_all-clause-kept
returns-in_err-act_all-clause-kept g c =
    HasMoreAsks-then c.args.link.now c.loop-call.link c.act_all.new.link c.loop-call.invariant.kept c.act_all.ensures.kept

pub returns-in_err-act_all-clause-lines : goal.returns-in_err-act_all-clause-lines
returns-in_err-act_all-clause-lines g c =
    HasMoreLines-then c.args.self.now.queues c.loop-call.self.queues c.act_all.new.self.queues c.loop-call.invariant.lines c.act_all.ensures.lines

pub loop-call-preserved : goal.loop-call-preserved
loop-call-preserved g c =
    IsActing-call c.args.link.now c.args.self.now c.args.calls.now c.loop-call.link c.loop-call.self c.loop-call.call-index
    c.call-item.result c.as_slice.result.now c.act_all.new.link c.act_all.new.self c.loop-call.invariant c.loop-call-test.true c.call-item.is c.as_slice.ensures.actions c.in_ok-act_all.ensures.done
    c.act_all.ensures.kept c.act_all.ensures.lines
