-- Sets of numbers as bits, and when the sets of a mask match.
use Rattle.std.specs.Prelude.{ℕ, Bool, ◌&&◌, ◌||◌, ◌==◌, if◌then◌else◌}
use Rattle.std.specs.Int.{bit_at}
use Rattle.bottimers.specs.declared.calendar.CivilMinute.{CivilMinute}

-- the bit of this number is set
abbrev pub has : ℕ → ℕ → Bool
has set n = bit_at set n == 1

-- the five sets, and whether one of day and weekday is enough
pub record Sets : Type 0 where
  pub minutes : ℕ
  pub hours : ℕ
  pub days : ℕ
  pub months : ℕ
  pub weekdays : ℕ
  pub either : Bool

-- day and weekday agree: one of them if that is enough, or else both
abbrev pub days_agree : Bool → Bool → Bool → Bool
days_agree either day weekday = if either then day || weekday else day && weekday

abbrev pub sets_match : Sets → CivilMinute → Bool
sets_match s at =
    has s.minutes at.minute && has s.hours at.hour && has s.months at.month
    && days_agree s.either (has s.days at.day) (has s.weekdays at.weekday)
