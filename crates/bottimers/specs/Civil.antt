-- The minute that a calendar and a clock show, and how it is written.
use Rattle.std.specs.Prelude.{◌≡◌, ℕ, ◌+◌, ◌-◌, ◌*◌, ◌/◌, ◌%◌, ◌<◌, ℤ, pos, neg_ℤ, ◌+ℤ◌, ◌*ℤ◌, unsigned_abs}
use Rattle.std.specs.Prelude.{List, [], ◌∷◌, ◌++◌}
use Rattle.std.specs.List.{join_with_byte}
use Rattle.jiff.specs.Types.{Date}
use Rattle.jiff.specs.Words.{IsBetween, IsYmd, epoch_day, weekday_of}
use Rattle.bottimers.specs.declared.limits.TheConstants.{MAX_OFFSET}
use Rattle.bottimers.specs.declared.calendar.CivilMinute.{CivilMinute}

-- whole minutes ahead of UTC, less than a day either way
abbrev pub IsOffset : ℤ → Type 0
IsOffset = IsBetween (neg_ℤ MAX_OFFSET) MAX_OFFSET

-- The minute has a date of the calendar, a time of the clock, and the weekday of that date from 0 for Sunday. It
-- begins `number` minutes after the start of 1 January 1970, with 1,440 minutes in each day.
pub record IsCalendarMinute (number : ℤ) (c : CivilMinute) : Type 0 where
  pub date : Date
  pub shown : IsYmd c.year (pos c.month) (pos c.day) date
  pub hour : c.hour < 24
  pub minute : c.minute < 60
  pub away : epoch_day date *ℤ pos 1440 +ℤ pos (c.hour * 60 + c.minute) ≡ number
  pub weekday : c.weekday ≡ (weekday_of date + 1) % 7

-- the last two decimal digits
abbrev pub two_digits : ℕ → List ℕ
two_digits n = (48 + n / 10 % 10) ∷ (48 + n % 10) ∷ []

-- and the last four
abbrev pub four_digits : ℕ → List ℕ
four_digits n = two_digits (n / 100) ++ two_digits n

-- minute, hour, day, the month from 00 for January, year
abbrev pub time_words : CivilMinute → List (List ℕ)
time_words c =
    two_digits c.minute ∷ two_digits c.hour ∷ two_digits c.day ∷ two_digits (c.month - 1) ∷ four_digits (unsigned_abs c.year) ∷ []

-- the same with one space between each two
abbrev pub time_line : CivilMinute → List ℕ
time_line c = join_with_byte 32 (time_words c)

-- minute, hour, day, the month from 01, weekday
abbrev pub cron_words : CivilMinute → List (List ℕ)
cron_words c =
    two_digits c.minute ∷ two_digits c.hour ∷ two_digits c.day ∷ two_digits c.month ∷ two_digits c.weekday ∷ []
