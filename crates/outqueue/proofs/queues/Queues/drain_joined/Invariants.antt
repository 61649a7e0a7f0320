use Rattle.std.proofs.Common.{◌≤◌, length, vec_capacity}
use Rattle.outqueue.specs.declared.limits.TheConstants.{MAX_AT_ONCE}
use Rattle.outqueue.proofs.JoinedDrains.{Turned}
use Rattle.outqueue.proofs.queues.Queues.drain_joined.Given as goal

-- the lines of the turns so far, with room for those of the others
abbrev pub invariant-loop-turn : goal.invariant-loop-turn
invariant-loop-turn l =
    record {
      turned : Turned l.most l.now l.fn.self l._turn l.lines.items l.rest;
      few : length l.lines.items ≤ l._turn;
      room : MAX_AT_ONCE ≤ vec_capacity l.lines;
    }
