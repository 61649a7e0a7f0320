use Rattle.std.proofs.Common.{◌≤◌, length, vec_capacity}
use Rattle.outqueue.specs.Sending.{waiting, sent}
use Rattle.outqueue.proofs.Drains.{Drained}
use Rattle.outqueue.proofs.queues.Queues.drain.Given as goal

-- the lines so far are the first that waited, each in time, and there is room for all that go
abbrev pub invariant-loop-line : goal.invariant-loop-line
invariant-loop-line l =
    record {
      drained : Drained l.fn.self l.now l.lines.items l.self;
      room : length (sent l.fn.self l.now) ≤ vec_capacity l.lines;
    }

abbrev pub decreases-loop-line : goal.decreases-loop-line
decreases-loop-line l = length (waiting l.self)
