use Rattle.botcore.proofs.RunningLemmas.{IsRunning-next}
use Rattle.botcore.proofs.running.run_seconds.Goals as goal

pub loop-second-preserved : goal.loop-second-preserved
loop-second-preserved c =
    IsRunning-next c.args.config.now.zone c.args.timers.now c.args.seconds.now c.loop-second.timers c.run_second.new.timers
    c.loop-second.rest.now c.in-Some.behind.now c.in-Some.second.now c.loop-second.occasions.items c.in_ok-more.more.items c.append.new.self.items
    c.loop-second.invariant c.in-Some.ensures.cases.0 c.in_ok-more.ensures.passed c.in_ok-more.ensures.occasions c.in_ok-append.ensures.items
