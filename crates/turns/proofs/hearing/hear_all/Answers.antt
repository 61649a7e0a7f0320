use Rattle.std.proofs.Common.{◌∙◌, refl}
use Rattle.turns.specs.Outboxes.{course_of}
use Rattle.turns.proofs.DriveLemmas.{HasHeard-none, HasHeard-more, HearsAll-none, HearsAll-full, HearsSome-then}
use Rattle.turns.proofs.hearing.hear_all.Goals as goal

pub loop-read-init : goal.loop-read-init
loop-read-init g c = (
  HasHeard-none g.P.Promise.promised c.args.store.now (course_of c.args.bot.now c.args.outbox.now) c.args.lines.now
      (g.S.Stream.source c.args.stream.now),
  refl,
)

pub returns-in-Ok-false-clause-ok : goal.returns-in-Ok-false-clause-ok
returns-in-Ok-false-clause-ok g c =
    HearsAll-none c.loop-read._read g.P.Promise.promised c.args.store.now
    (course_of c.args.bot.now c.args.outbox.now) (course_of c.loop-read.bot c.loop-read.outbox)
    (course_of c.hear_piece.new.bot c.hear_piece.new.outbox) c.args.lines.now c.loop-read.lines c.hear_piece.new.lines
    (g.S.Stream.source c.args.stream.now) (g.S.Stream.source c.loop-read.stream) (g.S.Stream.source c.hear_piece.new.stream)
    c.in-Ok-false.field-0 c.in-Ok-false.field-0-test c.loop-read-test.true c.loop-read.invariant.0 c.in-Ok-false.ensures.ok

pub returns-in-Err-clause-err : goal.returns-in-Err-clause-err
returns-in-Err-clause-err g c =
    HearsSome-then c.loop-read._read g.P.Promise.promised c.args.store.now
    (course_of c.args.bot.now c.args.outbox.now) (course_of c.loop-read.bot c.loop-read.outbox)
    (course_of c.hear_piece.new.bot c.hear_piece.new.outbox) c.args.lines.now c.loop-read.lines c.hear_piece.new.lines
    (g.S.Stream.source c.args.stream.now) (g.S.Stream.source c.loop-read.stream) (g.S.Stream.source c.hear_piece.new.stream)
    c.in-Err.end c.loop-read-test.true c.loop-read.invariant.0 c.in-Err.ensures.err

pub returns-clause-ok : goal.returns-clause-ok
returns-clause-ok g c =
    HearsAll-full c.loop-read._read g.P.Promise.promised c.args.store.now
    (course_of c.args.bot.now c.args.outbox.now) (course_of c.loop-read.bot c.loop-read.outbox)
    c.args.lines.now c.loop-read.lines (g.S.Stream.source c.args.stream.now) (g.S.Stream.source c.loop-read.stream)
    c.loop-read-test.false c.loop-read.invariant.0

pub loop-read-preserved : goal.loop-read-preserved
loop-read-preserved g c = (
  HasHeard-more c.loop-read._read g.P.Promise.promised c.args.store.now
      (course_of c.args.bot.now c.args.outbox.now) (course_of c.loop-read.bot c.loop-read.outbox)
      (course_of c.hear_piece.new.bot c.hear_piece.new.outbox) c.args.lines.now c.loop-read.lines c.hear_piece.new.lines
      (g.S.Stream.source c.args.stream.now) (g.S.Stream.source c.loop-read.stream) (g.S.Stream.source c.hear_piece.new.stream)
      c.in-Ok-true.field-0 c.in-Ok-true.field-0-test c.loop-read-test.true c.loop-read.invariant.0 c.in-Ok-true.ensures.ok,
  c.hear_piece.ensures.other ∙ c.loop-read.invariant.1,
)
