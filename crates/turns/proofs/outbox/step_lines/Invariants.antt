use Rattle.std.proofs.Common.{take}
use Rattle.turns.specs.Driving.{Makes, line_events}
use Rattle.turns.specs.Outboxes.{course_of}
use Rattle.turns.proofs.outbox.step_lines.Given as goal

-- the lines so far are stepped
abbrev pub invariant-loop-line : goal.invariant-loop-line
invariant-loop-line g l =
    Makes g.P.Promise.promised l.store (course_of l.fn.bot l.fn.outbox) (line_events (take l.line-index l.lines))
    (course_of l.bot l.outbox)
