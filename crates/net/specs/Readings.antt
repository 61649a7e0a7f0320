-- What two clocks read as one second.
use Rattle.std.specs.Prelude.{ℕ, ◌+◌, ◌-◌, ◌==◌, min, nat_lt, if◌then◌else◌}
use Rattle.bytetext.specs.declared.moment.TheConstants.{MOMENTS_END}

-- the last reading, and what the monotonic clock showed when that second was first read
pub record Readings : Type 0 where
  pub last : ℕ
  pub mark : ℕ

-- the wall clock's second; if that is below the last reading, the last reading plus the seconds that have passed since
abbrev pub seconds_of : Readings → ℕ → ℕ → ℕ
seconds_of line wall monotonic = if nat_lt wall line.last then line.last + (monotonic - line.mark) else wall

-- this second, but at most the last moment
abbrev pub reading : Readings → ℕ → ℕ → ℕ
reading line wall monotonic = min (seconds_of line wall monotonic) (MOMENTS_END - 1)

-- a second that is read again keeps its mark
abbrev pub after : Readings → ℕ → ℕ → Readings
after line second monotonic =
    if second == line.last then line else record { last = second; mark = monotonic }
