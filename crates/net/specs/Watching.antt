-- What the last wait gave.
use Rattle.std.specs.Prelude.{ℕ, List, Bool, ◌||◌}
use Rattle.mio.specs.Event.{is_read_closed, is_error}
use Rattle.mio.specs.declared.event.event.Event.{Event}

-- the tokens of the last wait, one for each event, those of its events that tell of an end, and the most events that a
-- wait reports
pub record Watching : Type 0 where
  pub tokens : List ℕ
  pub endings : List ℕ
  pub room : ℕ

-- an event tells of an end: the other side sends no more, or the socket failed
abbrev pub is_ending : Event → Bool
is_ending event = is_read_closed event || is_error event
