-- What the fields of one queue mean.
use Rattle.std.specs.Prelude.{◌+◌, ◌≤◌}
use Rattle.std.specs.VecDeque.{deque_len, deque_capacity}
use Rattle.outqueue.specs.declared.limits.TheConstants.{MAX_LINES}
use Rattle.outqueue.specs.declared.lane.Lane.TheInside.{Inside}
use Rattle.outqueue.specs.Lanes.{Filled}

-- what contracts see
abbrev pub filled : Inside → Filled
filled lane = record { lines = lane.queue.items; room = lane.room }

-- the lines are at most 500, and the deque has the reserved room
pub record HasRoom (lane : Inside) : Type 0 where
  pub few : deque_len lane.queue ≤ MAX_LINES
  pub room : deque_len lane.queue + lane.room ≤ deque_capacity lane.queue
