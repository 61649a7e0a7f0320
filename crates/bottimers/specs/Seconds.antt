-- Moments, and the seconds that a reading of the clock runs.
use Rattle.std.specs.Prelude.{ℕ, ◌+◌, ◌-◌, ◌<◌, max, nat_lt, if◌then◌else◌, Option, Some, None, List, []}
use Rattle.std.specs.List.{range_with_len}
use Rattle.bytetext.specs.declared.moment.TheConstants.{MOMENTS_END}
use Rattle.bottimers.specs.declared.limits.TheConstants.{MAX_SECONDS}
use Rattle.bottimers.specs.declared.fault.ClockFault.{ClockFault}
use Rattle.bottimers.specs.declared.fault.ClockFault.TheVariants.{BadMoment}

-- whole seconds since the start of 1970, up to the end of 2999
abbrev pub IsMoment : ℕ → Type 0
IsMoment t = t < MOMENTS_END

-- what is wrong with a reading
abbrev pub reading_fault : ℕ → Option ClockFault
reading_fault now = if nat_lt now MOMENTS_END then None else Some BadMoment

-- the whole seconds from the first to the last, none if the last is below the first
abbrev pub seconds_between : ℕ → ℕ → List ℕ
seconds_between first last = range_with_len first (last + 1 - first)

-- what runs at a reading: nothing at the first one, then every second that has passed, but only the last 600
abbrev pub seconds_run : Option ℕ → ℕ → List ℕ
seconds_run None now = []
seconds_run (Some last) now = seconds_between (max (last + 1) (now - (MAX_SECONDS - 1))) now

-- the last second after a reading: a clock never goes back
abbrev pub last_after : Option ℕ → ℕ → ℕ
last_after None now = now
last_after (Some last) now = max last now
