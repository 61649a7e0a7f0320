-- The minute of a moment, from nanoseconds.
use Rattle.std.proofs.Common.{◌≡◌, ◌+◌, ◌*◌, arith, ℤ, pos, ◌+ℤ◌, ◌*ℤ◌}
use Rattle.std.specs.Int.{int_div_euclid}
use Rattle.jiff.specs.Types.{DateTime}
use Rattle.jiff.specs.Words.{civil_nanos, epoch_day}
use Rattle.jiff.proofs.SpanFacts.{signed_arith}
use Rattle.jiff.proofs.Family.{civil_nanos-parts}

pub minutes_away : (dt : DateTime) (seconds : ℤ) → civil_nanos dt ≡ seconds *ℤ pos 1_000_000_000
    → epoch_day dt.date *ℤ pos 1440 +ℤ pos (dt.time.hour * 60 + dt.time.minute) ≡ int_div_euclid seconds (pos 60)
minutes_away dt seconds shown = omega (arith, signed_arith, civil_nanos-parts dt, shown, dt.time.minute_in, dt.time.second_in, dt.time.subsec_in)
