use Rattle.std.proofs.Common.{◌≡◌}
use Rattle.turns.specs.Outboxes.{course_of}
use Rattle.turns.proofs.DriveLemmas.{HasHeard}
use Rattle.turns.proofs.hearing.hear_all.Given as goal

-- so many pieces are read and taken in
abbrev pub invariant-loop-read : goal.invariant-loop-read
invariant-loop-read g l =
    HasHeard l._read g.P.Promise.promised l.store (course_of l.fn.bot l.fn.outbox) l.fn.lines
    (g.S.Stream.source l.fn.stream) (course_of l.bot l.outbox) l.lines (g.S.Stream.source l.stream)
    × (g.S.Stream.sink l.stream ≡ g.S.Stream.sink l.fn.stream)
