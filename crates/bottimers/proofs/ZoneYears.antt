-- The year of a moment is the one in which it lies.
use Rattle.std.proofs.Common.{◌≡◌, ℕ, zero, suc, ◌+◌, ◌/◌, ◌<◌, ◌≤◌, ℤ, pos, ◌+ℤ◌, ◌-ℤ◌, ◌≤ℤ◌, arith, refl, ap, inl, inr, unsigned_abs}
use Rattle.std.proofs.lemmas.Bool.Decides.{leb_tells}
use Rattle.jiff_core.specs.Calendar.{days_in_year, day_count, day_of_year, days_of_years}
use Rattle.jiff_core.proofs.CalendarLemmas.{day_count-end, days_from_civil-day_count, days_of_months-zero}
use Rattle.jiff_core.proofs.SignedLemmas.{signed_arith}
use Rattle.jiff_tz.specs.Year.{years_within}
use Rattle.bottimers.specs.Seconds.{IsMoment}
use Rattle.bottimers.specs.Zones.{IsInYear, year_begins, year_ends, year_of}

-- ---- years that fit in days

next_days : (n : ℕ) → days_of_years (suc n) ≡ days_of_years n + days_in_year (pos n -ℤ pos 10000)
unfolding days_of_years
next_days n = refl

no_days : days_of_years 0 ≡ 0
unfolding days_of_years
no_days = refl

-- they have no more days, and one year more has more
years_fit : (n count : ℕ) → days_of_years (years_within n count) ≤ count
unfolding years_within
years_fit zero count = rw no_days (omega arith)
years_fit (suc n) count = elim (leb_tells (days_of_years (suc n)) count) [
  | inl fits ↦ rw fits.0 fits.1
  | inr over ↦ rw over.0 (years_fit n count)
]

years_end : (n count : ℕ) → count < days_of_years (suc n) → count < days_of_years (suc (years_within n count))
unfolding years_within
years_end zero count more = more
years_end (suc n) count more = elim (leb_tells (days_of_years (suc n)) count) [
  | inl fits ↦ rw fits.0 more
  | inr over ↦ rw over.0 (years_end n count over.1)
]

-- ---- the days before a year

before : (y : ℤ) (k : ℕ) → unsigned_abs (y +ℤ pos 10000) ≡ k → day_count y 1 1 ≡ days_of_years k
unfolding day_count
before y k is =
    let none = days_of_months-zero y in
    let place : day_of_year y 1 1 ≡ 1 = ap (λ (n : ℕ). n + 1) none in
    rw (is, place) (omega arith)

all_days : 7_304_850 ≤ days_of_years 20001
all_days =
    let whole = before (pos 10000) 20000 refl in
    let more = next_days 20000 in
    let all = day_count-end in
    omega (arith, whole, more, all)

-- ---- the year of a moment

pub in_year : (t : ℕ) → IsMoment t → IsInYear t (year_of t)
in_year t moment =
    let days : ℕ = t / 86_400 in
    let count : ℕ = unsigned_abs (pos days +ℤ pos 4_371_953) in
    let counted : count ≡ days + 4_371_953 = refl in
    let k : ℕ = years_within 20000 count in
    let y : ℤ = pos k -ℤ pos 10000 in
    let fit = years_fit 20000 count in
    let all = all_days in
    let end = years_end 20000 count (omega (arith, moment, counted, all)) in
    let more = next_days k in
    let back : y +ℤ pos 10000 ≡ pos k = omega (arith, signed_arith) in
    let first = before y k (ap unsigned_abs back) in
    let civil = days_from_civil-day_count y 1 1 in
    let low : year_begins y ≤ℤ pos t = omega (arith, signed_arith, fit, counted, first, civil) in
    let high : pos t ≤ℤ (year_ends y -ℤ pos 1) = omega (arith, signed_arith, end, more, counted, first, civil) in
    (low, high)
