use Rattle.std.proofs.Common.{◌∙◌, ◌++◌, ap, sym}
use Rattle.ircline.specs.Stream.{lines_of}
use Rattle.turns.specs.Outboxes.{course_of}
use Rattle.botcore.proofs.BackLemmas.{on_err}
use Rattle.turns.proofs.DrivingLemmas.{HearsFirst-none, HearsFirst-if}
use Rattle.turns.proofs.hearing.hear_bytes.Goals as goal

pub returns-in_err-ended-clause-err : goal.returns-in_err-ended-clause-err
returns-in_err-ended-clause-err g c =
    on_err c.from_residual.result
    (HearsFirst-none g.P.Promise.promised c.args.store.now (course_of c.args.bot.now c.args.outbox.now)
    c.args.lines.now c.args.bytes.now)

pub returns-clause-err : goal.returns-clause-err
returns-clause-err g c =
    HearsFirst-if g.P.Promise.promised c.args.store.now (course_of c.args.bot.now c.args.outbox.now)
    (course_of c.step_lines.new.bot c.step_lines.new.outbox) c.args.lines.now c.args.bytes.now c.feed.new.self
    c.as_slice.result.now c.step_lines.result
    (record {
      goes_on = λ stream h. c.in_ok-ended.ensures.lines stream h ∙ ap (λ lines. lines_of stream ++ lines) (sym c.as_slice.ensures.value);
      holds = c.in_ok-ended.ensures.held;
    })
    c.step_lines.ensures.err
