use Rattle.std.proofs.Common.{arith}
use Rattle.replay.proofs.Doings.{Does-none, Does-step, Does-steps}
use Rattle.replay.proofs.transcripts.put_steps.Goals as goal

pub loop-step-init : goal.loop-step-init
loop-step-init g c = λ past stands. Does-none g.P.Promise.promised past _ _ stands

pub loop-step-preserved : goal.loop-step-preserved
loop-step-preserved g c = λ past stands.
    Does-step g.P.Promise.promised past c.args.steps.now c.loop-step.step-index c.step-item.result _ _ _ _ _ (omega arith) c.step-item.is
    (c.loop-step.invariant past stands) c.in_ok-put_step.ensures

pub returns : goal.returns
returns g c = λ past stands.
    Does-steps g.P.Promise.promised past c.args.steps.now c.loop-step.step-index _ _ _ (omega arith) (c.loop-step.invariant past stands)
