use Rattle.std.proofs.Common.{◌≡◌}
use Rattle.outqueue.specs.Joining.{along, left, room_after}
use Rattle.outqueue.proofs.JoiningLemmas.{Walked}
use Rattle.outqueue.proofs.lane.Lane.take_along.Given as goal

-- the lines so far and those that still go along are all that go along
abbrev pub invariant-loop-turn : goal.invariant-loop-turn
invariant-loop-turn l =
    record {
      walked : Walked l.most l._turn l.channel l.room l.lines.items l.self.lines
          (along l.most l.channel (room_after l.first) l.fn.self.lines) (left l.most l.channel (room_after l.first) l.fn.self.lines);
      room : l.self.room ≡ l.fn.self.room;
    }
