use Rattle.turns.specs.Outboxes.{course_of}
use Rattle.turns.proofs.DriveLemmas.{TakesAll-of, TakesFirst-of, TakesSome-of}
use Rattle.turns.proofs.driving.take_in.Goals as goal

pub returns-in-Ok-step_clock-clause-ok : goal.returns-in-Ok-step_clock-clause-ok
returns-in-Ok-step_clock-clause-ok g c =
    TakesAll-of g.P.Promise.promised c.args.store.now c.args.now (course_of c.args.bot.now c.args.outbox.now)
    (course_of c.hear_all.new.bot c.hear_all.new.outbox) (course_of c.step_clock.new.bot c.step_clock.new.outbox)
    c.args.lines.now c.hear_all.new.lines (g.S.Stream.source c.args.stream.now) (g.S.Stream.source c.hear_all.new.stream)
    c.in-Ok.ensures.ok c.in-Ok-step_clock.ensures.ok

pub returns-in-Err-clause-err : goal.returns-in-Err-clause-err
returns-in-Err-clause-err g c =
    TakesSome-of g.P.Promise.promised c.args.store.now c.args.now (course_of c.args.bot.now c.args.outbox.now)
    (course_of c.hear_all.new.bot c.hear_all.new.outbox) c.args.lines.now c.hear_all.new.lines
    (g.S.Stream.source c.args.stream.now) (g.S.Stream.source c.hear_all.new.stream) c.in-Err.end c.in-Err.ensures.err

pub returns-in-Err-step_clock-clause-err : goal.returns-in-Err-step_clock-clause-err
returns-in-Err-step_clock-clause-err g c =
    TakesFirst-of g.P.Promise.promised c.args.store.now c.args.now (course_of c.args.bot.now c.args.outbox.now)
    (course_of c.hear_all.new.bot c.hear_all.new.outbox) (course_of c.step_clock.new.bot c.step_clock.new.outbox)
    c.args.lines.now c.hear_all.new.lines (g.S.Stream.source c.args.stream.now) (g.S.Stream.source c.hear_all.new.stream)
    c.in-Ok.ensures.ok c.in-Err-step_clock.ensures.err
