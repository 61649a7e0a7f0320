use Rattle.turns.specs.Outboxes.{course_of}
use Rattle.botcore.proofs.BackLemmas.{on_err}
use Rattle.turns.proofs.DrivingLemmas.{Makes-none, Makes-next, MakesFirst-at}
use Rattle.turns.proofs.outbox.step_lines.Goals as goal

pub loop-line-init : goal.loop-line-init
loop-line-init g c = Makes-none g.P.Promise.promised c.args.store.now (course_of c.args.bot.now c.args.outbox.now)

pub returns-in_err-step_line-clause-err : goal.returns-in_err-step_line-clause-err
returns-in_err-step_line-clause-err g c =
    on_err c.from_residual.result
    (MakesFirst-at g.P.Promise.promised c.args.store.now (course_of c.args.bot.now c.args.outbox.now)
    (course_of c.loop-line.bot c.loop-line.outbox) (course_of c.step_line.new.bot c.step_line.new.outbox)
    c.args.lines.now c.loop-line.line-index c.loop-line.invariant c.in_err-step_line.ensures.err)

pub loop-line-preserved : goal.loop-line-preserved
loop-line-preserved g c =
    Makes-next g.P.Promise.promised c.args.store.now (course_of c.args.bot.now c.args.outbox.now)
    (course_of c.loop-line.bot c.loop-line.outbox) (course_of c.step_line.new.bot c.step_line.new.outbox)
    c.args.lines.now c.loop-line.line-index c.line-item.result c.loop-line-test.true c.line-item.is c.loop-line.invariant
    c.in_ok-step_line.ensures.ok
