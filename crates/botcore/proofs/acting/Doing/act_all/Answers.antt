use Rattle.botcore.proofs.AskLemmas.{HasMoreAsks-then, IsActing-action}
use Rattle.botcore.proofs.PutLemmas.{HasMoreLines-then}
use Rattle.botcore.proofs.acting.Doing.act_all.Goals as goal

pub returns-in_err-act-clause-kept : goal.returns-in_err-act-clause-kept
returns-in_err-act-clause-kept g c =
    HasMoreAsks-then c.args.link.now c.loop-action.link c.act.new.link c.loop-action.invariant.kept c.act.ensures.kept

pub returns-in_err-act-clause-lines : goal.returns-in_err-act-clause-lines
returns-in_err-act-clause-lines g c =
    HasMoreLines-then c.args.self.now.queues c.loop-action.self.queues c.act.new.self.queues c.loop-action.invariant.lines c.act.ensures.lines

pub loop-action-preserved : goal.loop-action-preserved
loop-action-preserved g c =
    IsActing-action c.args.link.now c.args.self.now c.args.actions.now c.loop-action.link c.loop-action.self c.loop-action.action-index
    c.action-item.result c.act.new.link c.act.new.self c.loop-action.invariant c.loop-action-test.true c.action-item.is c.in_ok-act.ensures.done
    c.act.ensures.kept c.act.ensures.lines
