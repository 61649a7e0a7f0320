-- The offset that jiff finds in nanoseconds is that of the rule's changes in seconds.
use Rattle.std.proofs.Common.{◌≡◌, ℕ, ◌/◌, ℤ, pos, neg_ℤ, ◌+ℤ◌, ◌-ℤ◌, ◌*ℤ◌, ◌≤ℤ◌, ◌<ℤ◌, ◌⊎◌, inl, inr}
use Rattle.std.proofs.Common.{Bool, true, false, ◌&&◌, ◌||◌, int_le, int_lt, Option, Some, None, arith, refl, ap, sym, ◌∙◌}
use Rattle.std.specs.Prelude.{if◌then◌else◌, option_map}
use Rattle.std.specs.Int.{int_div_euclid}
use Rattle.jiff_core.specs.Calendar.{IsWithin}
use Rattle.jiff_core.specs.Timestamp.{nanos_of_seconds}
use Rattle.jiff_core.specs.declared.Offset.{Offset}
use Rattle.jiff_core.proofs.CalendarLemmas.{days_in_year_bounds}
use Rattle.jiff_core.proofs.SignedLemmas.{signed_arith}
use Rattle.jiff_tz.specs.PosixRule as Nanos
use Rattle.jiff_tz.specs.PosixRule.{rule_nanos, utc_window}
use Rattle.jiff_tz.specs.PosixText.{day_time_view, dst_view, tz_view}
use Rattle.jiff_tz.specs.Year.{year_of_day, year_of_nanos}
use Rattle.jiff_tz.specs.declared.posix.DayTime.{DayTime}
use Rattle.jiff_tz.specs.declared.posix.Dst.{Dst}
use Rattle.jiff_tz.specs.declared.posix.TimeZone.{TimeZone}
use Rattle.bottimers.specs.Seconds.{IsMoment}
use Rattle.bottimers.specs.Zones.{IsInYear, ahead_at, change_in, is_dst, is_in_force, seconds_in, year_begins, year_ends, year_of}
use Rattle.bottimers.proofs.ZoneYears.{in_year}

abbrev G : ℤ
G = pos 1_000_000_000

-- ---- tests

same_test : (a b : Bool) → (a ≡ true → b ≡ false → ⊥) → (a ≡ false → b ≡ true → ⊥) → a ≡ b
same_test true true f g = refl
same_test true false f g = absurd (f refl refl)
same_test false true f g = absurd (g refl refl)
same_test false false f g = refl

yes : (b : Bool) → (b ≡ false → ⊥) → b ≡ true
yes true f = refl
yes false f = absurd (f refl)

no : (b : Bool) → (b ≡ true → ⊥) → b ≡ false
no true f = absurd (f refl)
no false f = refl

either : (b : Bool) → (b ≡ true) ⊎ (b ≡ false)
either true = inl refl
either false = inr refl

and_true : (a : Bool) → (a && true) ≡ a
and_true true = refl
and_true false = refl

one_choice : {A : Type 0} (c : Bool) (a : A) → (if c then a else a) ≡ a
one_choice true a = refl
one_choice false a = refl

-- ---- changes

-- A change of the year from one second to another: jiff has it in nanoseconds, and where the year ends, a nanosecond
-- before.
record IsChange (begins ends nanos seconds : ℤ) : Type 0 where
  pub within : begins ≤ℤ seconds
  pub is : ((nanos ≡ seconds *ℤ G) × (seconds <ℤ ends)) ⊎ ((nanos ≡ ends *ℤ G -ℤ pos 1) × (seconds ≡ ends))

-- they come in one order
le_same : (begins ends a b x y : ℤ) → IsChange begins ends a x → IsChange begins ends b y → int_le a b ≡ int_le x y
le_same begins ends a b x y one other = elim one.is [
  | inl i ↦ elim other.is [
    | inl j ↦ same_test (int_le a b) (int_le x y)
        (λ h k. omega (arith, signed_arith, i.0, i.1, j.0, j.1, h, k))
        (λ h k. omega (arith, signed_arith, i.0, i.1, j.0, j.1, h, k))
    | inr j ↦ same_test (int_le a b) (int_le x y)
        (λ h k. omega (arith, signed_arith, i.0, i.1, j.0, j.1, h, k))
        (λ h k. omega (arith, signed_arith, i.0, i.1, j.0, j.1, h, k))
  ]
  | inr i ↦ elim other.is [
    | inl j ↦ same_test (int_le a b) (int_le x y)
        (λ h k. omega (arith, signed_arith, i.0, i.1, j.0, j.1, h, k))
        (λ h k. omega (arith, signed_arith, i.0, i.1, j.0, j.1, h, k))
    | inr j ↦ same_test (int_le a b) (int_le x y)
        (λ h k. omega (arith, signed_arith, i.0, i.1, j.0, j.1, h, k))
        (λ h k. omega (arith, signed_arith, i.0, i.1, j.0, j.1, h, k))
  ]
]

lt_same : (begins ends a b x y : ℤ) → IsChange begins ends a x → IsChange begins ends b y → int_lt a b ≡ int_lt x y
lt_same begins ends a b x y one other = elim one.is [
  | inl i ↦ elim other.is [
    | inl j ↦ same_test (int_lt a b) (int_lt x y)
        (λ h k. omega (arith, signed_arith, i.0, i.1, j.0, j.1, h, k))
        (λ h k. omega (arith, signed_arith, i.0, i.1, j.0, j.1, h, k))
    | inr j ↦ same_test (int_lt a b) (int_lt x y)
        (λ h k. omega (arith, signed_arith, i.0, i.1, j.0, j.1, h, k))
        (λ h k. omega (arith, signed_arith, i.0, i.1, j.0, j.1, h, k))
  ]
  | inr i ↦ elim other.is [
    | inl j ↦ same_test (int_lt a b) (int_lt x y)
        (λ h k. omega (arith, signed_arith, i.0, i.1, j.0, j.1, h, k))
        (λ h k. omega (arith, signed_arith, i.0, i.1, j.0, j.1, h, k))
    | inr j ↦ same_test (int_lt a b) (int_lt x y)
        (λ h k. omega (arith, signed_arith, i.0, i.1, j.0, j.1, h, k))
        (λ h k. omega (arith, signed_arith, i.0, i.1, j.0, j.1, h, k))
  ]
]

-- a moment that is kept within a year
kept : (begins ends n m : ℤ) → begins <ℤ ends → n ≡ m *ℤ G
    → IsChange begins ends (Nanos.clamp_to (begins *ℤ G) (ends *ℤ G -ℤ pos 1) n) (Nanos.clamp_to begins ends m)
kept begins ends n m some is = elim (either (int_lt m begins)) [
  | inl under ↦
      let nano : int_lt n (begins *ℤ G) ≡ true = yes (int_lt n (begins *ℤ G)) (λ h. omega (arith, signed_arith, is, under, h)) in
      rw (under, nano) (record { within = omega (arith, signed_arith); is = inl (refl, some) })
  | inr over ↦
      let nano : int_lt n (begins *ℤ G) ≡ false = no (int_lt n (begins *ℤ G)) (λ h. omega (arith, signed_arith, is, over, h)) in
      elim (either (int_lt ends m)) [
        | inl above ↦
            let nano_above : int_lt (ends *ℤ G -ℤ pos 1) n ≡ true =
            yes (int_lt (ends *ℤ G -ℤ pos 1) n) (λ h. omega (arith, signed_arith, is, above, h)) in
            rw (over, nano, above, nano_above) (record { within = omega (arith, signed_arith, some); is = inr (refl, refl) })
        | inr below ↦ elim (either (int_lt m ends)) [
          | inl inside ↦
              let nano_below : int_lt (ends *ℤ G -ℤ pos 1) n ≡ false =
              no (int_lt (ends *ℤ G -ℤ pos 1) n) (λ h. omega (arith, signed_arith, is, inside, h)) in
              rw (over, nano, below, nano_below)
              (record { within = omega (arith, signed_arith, over); is = inl (is, omega (arith, signed_arith, inside)) })
          | inr last ↦
              let nano_above : int_lt (ends *ℤ G -ℤ pos 1) n ≡ true =
              yes (int_lt (ends *ℤ G -ℤ pos 1) n) (λ h. omega (arith, signed_arith, is, last, h)) in
              rw (over, nano, below, nano_above)
              (record { within = omega (arith, signed_arith, over); is = inr (refl, omega (arith, signed_arith, last, below)) })
        ]
      ]
]

placed : (begins ends time ahead : ℤ) (day : Option ℤ) → begins <ℤ ends
    → IsChange begins ends
    (Nanos.match_some day (ends *ℤ G -ℤ pos 1) (λ d. Nanos.clamp_to (begins *ℤ G) (ends *ℤ G -ℤ pos 1)
    (d *ℤ Nanos.nanos_per_day +ℤ nanos_of_seconds (time -ℤ ahead))))
    (Nanos.match_some day ends (λ d. Nanos.clamp_to begins ends (d *ℤ pos 86_400 +ℤ time -ℤ ahead)))
placed begins ends time ahead None some = record { within = omega (arith, signed_arith, some); is = inr (refl, refl) }
placed begins ends time ahead (Some d) some =
    kept begins ends (d *ℤ Nanos.nanos_per_day +ℤ nanos_of_seconds (time -ℤ ahead)) (d *ℤ pos 86_400 +ℤ time -ℤ ahead) some (omega (arith, signed_arith))

-- ---- years

first_is : (y : ℤ) → Nanos.first_nanosecond y ≡ year_begins y *ℤ G
first_is y = omega (arith, signed_arith)

last_is : (y : ℤ) → Nanos.last_nanosecond y ≡ year_ends y *ℤ G -ℤ pos 1
last_is y = omega (arith, signed_arith)

some_days : (y : ℤ) → year_begins y <ℤ year_ends y
some_days y = omega (arith, signed_arith, days_in_year_bounds y)

change_of : (y ahead : ℤ) (d : DayTime) → IsChange (year_begins y) (year_ends y) (Nanos.rule_nanos y d ahead) (change_in y ahead (day_time_view d))
unfolding rule_nanos
change_of y ahead d =
    rw (first_is y, last_is y) (placed (year_begins y) (year_ends y) d.time ahead (Nanos.rule_day y d.date) (some_days y))

-- ---- daylight saving time

-- The end of daylight saving time, on the clock of standard time, is outside of the year alike: where the change back is
-- within the year.
abbrev is_all_nanos : ℤ → ℤ → ℤ → ℤ → ℤ → Bool
is_all_nanos begins ends start end standard =
    Nanos.int_same start (begins *ℤ G)
    && (int_lt (Nanos.saturating_add end (nanos_of_seconds standard)) (begins *ℤ G)
    || int_lt (ends *ℤ G -ℤ pos 1) (Nanos.saturating_add end (nanos_of_seconds standard)))

abbrev is_all : ℤ → ℤ → ℤ → ℤ → ℤ → Bool
is_all begins ends start end standard =
    int_le start begins && (int_lt (end +ℤ standard) begins || int_le ends (end +ℤ standard))

-- moments of a year that the library can add an offset to
record IsNear (begins ends : ℤ) : Type 0 where
  pub low : neg_ℤ (pos 100_000_000_000) ≤ℤ begins
  pub high : ends ≤ℤ pos 100_000_000_000

unmoved : (n : ℤ) → Nanos.civil_min ≤ℤ n → n ≤ℤ Nanos.civil_max → Nanos.clamp_to Nanos.civil_min Nanos.civil_max n ≡ n
unmoved n low high =
    let above : int_lt n Nanos.civil_min ≡ false = no (int_lt n Nanos.civil_min) (λ h. omega (arith, signed_arith, low, h)) in
    let below : int_lt Nanos.civil_max n ≡ false = no (int_lt Nanos.civil_max n) (λ h. omega (arith, signed_arith, high, h)) in
    rw (above, below) refl

begins_alike : (begins ends a x : ℤ) → begins <ℤ ends → IsChange begins ends a x → Nanos.int_same a (begins *ℤ G) ≡ int_le x begins
begins_alike begins ends a x some change =
    let first : IsChange begins ends (begins *ℤ G) begins = record { within = omega (arith, signed_arith); is = inl (refl, some) } in
    let back : int_le (begins *ℤ G) a ≡ true = le_same begins ends (begins *ℤ G) a begins x first change
    ∙ yes (int_le begins x) (λ h. omega (arith, signed_arith, change.within, h)) in
    rw (back, le_same begins ends a (begins *ℤ G) x begins change first) (and_true (int_le x begins))

all_alike : (begins ends a b x y standard : ℤ) → begins <ℤ ends → IsNear begins ends → IsWithin 93_599 standard → IsChange begins ends a x
    → b ≡ y *ℤ G → begins ≤ℤ y → y <ℤ ends → is_all_nanos begins ends a b standard ≡ is_all begins ends x y standard
all_alike begins ends a b x y standard some near small change is low high =
    let sum : Nanos.saturating_add b (nanos_of_seconds standard) ≡ (y +ℤ standard) *ℤ G =
    unmoved (b +ℤ nanos_of_seconds standard) (omega (arith, signed_arith, is, low, small, near.low))
    (omega (arith, signed_arith, is, high, small, near.high))
    ∙ omega (arith, signed_arith, is) in
    let under : int_lt ((y +ℤ standard) *ℤ G) (begins *ℤ G) ≡ int_lt (y +ℤ standard) begins =
    same_test (int_lt ((y +ℤ standard) *ℤ G) (begins *ℤ G)) (int_lt (y +ℤ standard) begins)
    (λ h k. omega (arith, signed_arith, h, k))
    (λ h k. omega (arith, signed_arith, h, k)) in
    let over : int_lt (ends *ℤ G -ℤ pos 1) ((y +ℤ standard) *ℤ G) ≡ int_le ends (y +ℤ standard) =
    same_test (int_lt (ends *ℤ G -ℤ pos 1) ((y +ℤ standard) *ℤ G)) (int_le ends (y +ℤ standard))
    (λ h k. omega (arith, signed_arith, h, k))
    (λ h k. omega (arith, signed_arith, h, k)) in
    rw (begins_alike begins ends a x some change, sum, under, over) refl

in_force_alike : (begins ends a b x y t : ℤ) → IsChange begins ends a x → IsChange begins ends b y → IsChange begins ends (t *ℤ G) t
    → Nanos.in_window (a, b) (t *ℤ G) ≡ is_in_force x y t
in_force_alike begins ends a b x y t start end now =
    rw (
      le_same begins ends a b x y start end,
      le_same begins ends a (t *ℤ G) x t start now,
      lt_same begins ends (t *ℤ G) b t y now end,
      le_same begins ends b (t *ℤ G) y t end now,
      lt_same begins ends (t *ℤ G) a t x now start,
    ) refl

-- the window of a year, by its changes
abbrev window : ℤ → ℤ → ℤ → ℤ → ℤ → ℤ × ℤ
window begins ends a b standard = if is_all_nanos begins ends a b standard then (a, ends *ℤ G -ℤ pos 1) else (a, b)

window_alike : (begins ends a b x y standard t : ℤ) → begins <ℤ ends → IsNear begins ends → IsWithin 93_599 standard
    → IsChange begins ends a x → IsChange begins ends b y → IsChange begins ends (t *ℤ G) t
    → Nanos.in_window (window begins ends a b standard) (t *ℤ G)
    ≡ is_in_force x (if is_all begins ends x y standard then ends else y) t
window_alike begins ends a b x y standard t some near small start end now = elim end.is [
  | inl i ↦
      let alike = all_alike begins ends a b x y standard some near small start i.0 end.within i.1 in
      elim (either (is_all begins ends x y standard)) [
        | inl all ↦
            let last : IsChange begins ends (ends *ℤ G -ℤ pos 1) ends = record { within = omega (arith, signed_arith, some); is = inr (refl, refl) } in
            rw (alike, all) (in_force_alike begins ends a (ends *ℤ G -ℤ pos 1) x ends t start last now)
        | inr part ↦ rw (alike, part) (in_force_alike begins ends a b x y t start end now)
      ]
  | inr i ↦
      let nano : window begins ends a b standard ≡ (a, b) =
      ap (λ (e : ℤ). if is_all_nanos begins ends a b standard then (a, e) else (a, b)) (sym i.0)
      ∙ one_choice (is_all_nanos begins ends a b standard) (a, b) in
      let whole : (if is_all begins ends x y standard then ends else y) ≡ y =
      ap (λ (e : ℤ). if is_all begins ends x y standard then e else y) (sym i.1) ∙ one_choice (is_all begins ends x y standard) y in
      rw (nano, whole) (in_force_alike begins ends a b x y t start end now)
]

near_year : (t : ℕ) (y : ℤ) → IsMoment t → IsInYear t y → IsNear (year_begins y) (year_ends y)
near_year t y moment within = record {
  low = omega (arith, signed_arith, within, days_in_year_bounds y);
  high = omega (arith, signed_arith, moment, within, days_in_year_bounds y);
}

dst_alike : (d : Dst) (std : Offset) (t : ℕ) (y : ℤ) → IsMoment t → IsInYear t y
    → Nanos.in_window (Nanos.utc_window d y std) (pos t *ℤ G) ≡ is_dst y std.seconds (dst_view d) (pos t)
unfolding utc_window
dst_alike d std t y moment within =
    let now : IsChange (year_begins y) (year_ends y) (pos t *ℤ G) (pos t) =
    record { within = within.0; is = inl (refl, omega (arith, signed_arith, within.1)) } in
    rw (first_is y, last_is y)
    (window_alike (year_begins y) (year_ends y) (Nanos.rule_nanos y d.rule.start std.seconds) (Nanos.rule_nanos y d.rule.end d.offset.seconds)
    (change_in y std.seconds (day_time_view d.rule.start)) (change_in y d.offset.seconds (day_time_view d.rule.end)) std.seconds (pos t)
    (some_days y) (near_year t y moment within) std.in_range (change_of y std.seconds d.rule.start) (change_of y d.offset.seconds d.rule.end) now)

-- ---- the offset at a moment

year_alike : (t : ℕ) → year_of_nanos (pos t *ℤ G) ≡ year_of t
year_alike t =
    let days : int_div_euclid (pos t *ℤ G) (pos 86_400_000_000_000) ≡ pos (t / 86_400) = omega (arith, signed_arith) in
    ap year_of_day days

abbrev seconds_of : Option Dst → Offset → ℤ
seconds_of found std = (Nanos.match_some found std (λ d. d.offset)).seconds

chosen : (c : Bool) (d : Dst) (std : Offset) → seconds_of (if c then Some d else None) std ≡ (if c then d.offset.seconds else std.seconds)
chosen true d std = refl
chosen false d std = refl

offset_by : (std : Offset) (dst : Option Dst) (t : ℕ) → IsMoment t
    → seconds_of (Nanos.dst_at_by std dst (pos t *ℤ G)) std ≡ seconds_in (year_of t) std.seconds (option_map dst_view dst) (pos t)
offset_by std None t moment = refl
offset_by std (Some d) t moment =
    let alike : Nanos.in_window (Nanos.utc_window d (year_of_nanos (pos t *ℤ G)) std) (pos t *ℤ G) ≡ is_dst (year_of t) std.seconds (dst_view d) (pos t) =
    ap (λ (y : ℤ). Nanos.in_window (Nanos.utc_window d y std) (pos t *ℤ G)) (year_alike t) ∙ dst_alike d std t (year_of t) moment (in_year t moment) in
    rw alike (chosen (is_dst (year_of t) std.seconds (dst_view d) (pos t)) d std)

-- what jiff's offset at a moment is
pub offset_alike : (tz : TimeZone) (t : ℕ) → IsMoment t → (Nanos.offset_at tz (pos t *ℤ G)).seconds ≡ ahead_at (tz_view tz) t
offset_alike tz t moment = offset_by tz.std_offset tz.dst t moment
