use Rattle.std.proofs.Common.{◌++◌, ap, ◌∙◌}
use Rattle.bytetext.proofs.Errors.{at_err}
use Rattle.procs.specs.Calls.{called, numbers_of, seen}
use Rattle.procs.proofs.BehindLemmas.{next-number, next-shorter, none-left, some-called}
use Rattle.procs.proofs.table.BindTable.find.Goals as goal

pub loop-bind-init : goal.loop-bind-init
loop-bind-init c =
    ap (λ ns. ns ++ numbers_of c.called-called.result) c.empty-numbers.ensures ∙ ap numbers_of c.called-called.ensures.binds

pub loop-bind-smaller : goal.loop-bind-smaller
loop-bind-smaller c = next-shorter c.loop-bind.called c.next.new.self c.in-Some.bind.now c.in-Some.ensures.first c.next.ensures.rest

pub loop-bind-preserved : goal.loop-bind-preserved
loop-bind-preserved c =
    next-number c.loop-bind.called c.next.new.self c.in-Some.bind.now c.loop-bind.numbers c.push.new.self c.in-Some.ensures.first c.next.ensures.rest
    c.in_ok-push.ensures.ok ∙ c.loop-bind.invariant

pub returns-clause-numbers : goal.returns-clause-numbers
returns-clause-numbers c = none-left c.loop-bind.called c.loop-bind.numbers c.in_default.ensures.first ∙ c.loop-bind.invariant

pub returns-in_err-push-clause-memory : goal.returns-in_err-push-clause-memory
returns-in_err-push-clause-memory c =
    at_err c.from_residual.result (some-called c.loop-bind.called (called (seen c.args.event.now) c.args.self.now.binds) c.loop-bind.numbers c.in-Some.bind.now
    c.in-Some.ensures.first c.loop-bind.invariant)
