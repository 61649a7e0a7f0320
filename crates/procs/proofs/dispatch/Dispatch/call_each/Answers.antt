use Rattle.procs.specs.Promises.{code_at}
use Rattle.procs.specs.Tellings.{told_all}
use Rattle.procs.proofs.MakingLemmas.{goes_on, stopped}
use Rattle.procs.proofs.dispatch.Dispatch.call_each.Goals as goal

pub loop-bind-preserved : goal.loop-bind-preserved
loop-bind-preserved g c =
    goes_on g.P.Promise.promised c.args.scene.now.view.now c.args.scene.now.store.now c.args.call.now c.loop-bind.binds c.next.new.self c.in-Some.bind.now
    c.args.self.now c.loop-bind.self c.call_proc.new.self c.loop-bind.invariant.0 (told_all (code_at g.P.Promise.promised c.args.scene.now.view.now.sight) c.args.scene.now.store.now c.args.call.now c.args.binds)
    c.in-Some.ensures.first c.in-Some.ensures.rest c.loop-bind.invariant.1 c.loop-bind.invariant.2 c.in-Ok.ensures.ok

pub returns-in-Err-clause-err : goal.returns-in-Err-clause-err
returns-in-Err-clause-err g c =
    stopped g.P.Promise.promised c.args.scene.now.view.now c.args.self.now c.loop-bind.self c.call_proc.new.self c.loop-bind.invariant.0
    (told_all (code_at g.P.Promise.promised c.args.scene.now.view.now.sight) c.args.scene.now.store.now c.args.call.now c.loop-bind.binds)
    (told_all (code_at g.P.Promise.promised c.args.scene.now.view.now.sight) c.args.scene.now.store.now c.args.call.now c.args.binds)
    c.in-Err.ensures.err c.loop-bind.invariant.1 c.loop-bind.invariant.2
