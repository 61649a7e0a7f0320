-- How far ahead of UTC a clock is that follows a POSIX rule (IEEE Std 1003.1, Base Definitions 8.3, under TZ; RFC 9636
-- has times of a rule from -167 to 167 hours). The definitions of jiff_tz say what a rule means and which texts are
-- rules: `TzText`, `read_whole` and, for the days that a rule names, `rule_day`.
use Rattle.std.specs.Prelude.{ℕ, ◌/◌, ◌&&◌, ◌||◌, not, Bool, nat_le, ℤ, pos, ◌+ℤ◌, ◌-ℤ◌, ◌*ℤ◌, int_le, int_lt}
use Rattle.std.specs.Prelude.{Option, None, Some, List, length, codes, if◌then◌else◌}
use Rattle.std.specs.Int.{int_div_euclid}
use Rattle.jiff_core.specs.Calendar.{days_from_civil, days_in_year, IsBetween}
pub use Rattle.jiff_tz.specs.PosixText.{TzText}
use Rattle.jiff_tz.specs.PosixText.{DstText}
use Rattle.jiff_tz.specs.PosixReader.{read_whole}
use Rattle.jiff_tz.specs.PosixRule.{rule_day, clamp_to, match_some}
use Rattle.jiff_tz.specs.Year.{year_of_day}
use Rattle.jiff_tz.specs.declared.posix.Day.{Day}
use Rattle.bottimers.specs.declared.limits.TheConstants.{MAX_ZONE}

-- ---- rules

-- what a text of 1 to 100 bytes says, if it is a rule
abbrev pub rule_in : List ℕ → Option TzText
rule_in text = if nat_le 1 (length text) && nat_le (length text) MAX_ZONE then read_whole text else None

-- standard time alone, by this number of minutes ahead of UTC
abbrev pub fixed_rule : ℤ → TzText
fixed_rule minutes = record {
  std_name = codes "UTC";
  std_seconds = minutes *ℤ pos 60;
  dst = None;
}

-- ---- years, in seconds of UTC since the start of 1970

abbrev pub year_begins : ℤ → ℤ
year_begins y = days_from_civil y 1 1 *ℤ pos 86_400

abbrev pub year_ends : ℤ → ℤ
year_ends y = (days_from_civil y 1 1 +ℤ pos (days_in_year y)) *ℤ pos 86_400

-- the year of a moment, in UTC
abbrev pub year_of : ℕ → ℤ
year_of t = year_of_day (pos (t / 86_400))

-- ---- the changes of a year

-- The moment of a change in the year `y`, a number of seconds after the midnight that begins its day. The midnight is
-- that of the clock in force until then, which is `ahead` seconds ahead of UTC. A change that would lie outside its
-- year in UTC comes when the year begins or ends. A change on day 365 of a year without such a day comes when the year
-- ends.
abbrev pub change_in : ℤ → ℤ → Day × ℤ → ℤ
change_in y ahead change = match_some (rule_day y change.0) (year_ends y) (λ day.
    clamp_to (year_begins y) (year_ends y) (day *ℤ pos 86_400 +ℤ change.1 -ℤ ahead))

-- the change to daylight saving time, on the clock of standard time
abbrev pub dst_begins : ℤ → ℤ → DstText → ℤ
dst_begins y standard dst = change_in y standard dst.start

-- the change back, on the clock of daylight saving time
abbrev pub change_back : ℤ → DstText → ℤ
change_back y dst = change_in y dst.seconds dst.finish

-- Daylight saving time is in force all the year if it begins with the year and its change back, on the clock of
-- standard time, isn't in the year.
abbrev pub is_all_year : ℤ → ℤ → DstText → Bool
is_all_year y standard dst =
    int_le (dst_begins y standard dst) (year_begins y)
    && (int_lt (change_back y dst +ℤ standard) (year_begins y) || int_le (year_ends y) (change_back y dst +ℤ standard))

abbrev pub dst_ends : ℤ → ℤ → DstText → ℤ
dst_ends y standard dst = if is_all_year y standard dst then year_ends y else change_back y dst

-- ---- the offset at a moment

-- from `begins` on and before `ends`; if `ends` comes first, before `ends` or from `begins` on
abbrev pub is_in_force : ℤ → ℤ → ℤ → Bool
is_in_force begins ends t =
    if int_le begins ends then int_le begins t && int_lt t ends else not (int_le ends t && int_lt t begins)

-- in this year, daylight saving time is in force from the change to it until the change back
abbrev pub is_dst : ℤ → ℤ → DstText → ℤ → Bool
is_dst y standard dst t = is_in_force (dst_begins y standard dst) (dst_ends y standard dst) t

abbrev pub seconds_in : ℤ → ℤ → Option DstText → ℤ → ℤ
seconds_in y standard None t = standard
seconds_in y standard (Some dst) t = if is_dst y standard dst t then dst.seconds else standard

-- seconds ahead of UTC at a moment
abbrev pub ahead_at : TzText → ℕ → ℤ
ahead_at rule t = seconds_in (year_of t) rule.std_seconds rule.dst (pos t)

-- the whole minutes from the start of 1 January 1970 on the clock itself to what it shows at a moment
abbrev pub minute_at : TzText → ℕ → ℤ
minute_at rule t = int_div_euclid (pos t +ℤ ahead_at rule t) (pos 60)

-- the year of the moment is the one in which it lies
abbrev pub IsInYear : ℕ → ℤ → Type 0
IsInYear t y = IsBetween (year_begins y) (year_ends y -ℤ pos 1) (pos t)
