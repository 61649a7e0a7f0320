-- What a cron mask is, and at which minutes it matches.
use Rattle.std.specs.Prelude.{ℕ, Bool, not, ◌&&◌, ◌||◌, ◌==◌, nat_le, List, length}
use Rattle.bottimers.specs.declared.calendar.CivilMinute.{CivilMinute}
use Rattle.bottimers.specs.CronText.{is_star, is_field, in_field, fields_of, first_field, other_fields}
use Rattle.bottimers.specs.CronSets.{days_agree}

-- The weekday field has numbers from 0 to 7, and 7 is then read as 0: both are Sunday.
abbrev pub in_weekdays : List ℕ → ℕ → Bool
in_weekdays field n = in_field 0 7 field n || ((n == 0) && in_field 0 7 field 7)

-- five fields, of minute, hour, day, month and weekday
abbrev pub are_fields : List ℕ → List ℕ → List ℕ → List ℕ → List ℕ → Bool
are_fields minute hour day month weekday =
    is_field 0 59 minute && is_field 0 23 hour && is_field 1 31 day && is_field 1 12 month && is_field 0 7 weekday

-- Minute, hour and month are in their sets. So are day and weekday: both, or only one if neither field is `*`.
abbrev pub fields_match : List ℕ → List ℕ → List ℕ → List ℕ → List ℕ → CivilMinute → Bool
fields_match minute hour day month weekday at =
    in_field 0 59 minute at.minute && in_field 0 23 hour at.hour && in_field 1 12 month at.month
    && days_agree (not (is_star day) && not (is_star weekday)) (in_field 1 31 day at.day) (in_weekdays weekday at.weekday)

-- the fields of a mask, in order; a missing field is `*`
abbrev pub minute_of : List (List ℕ) → List ℕ
minute_of fields = first_field fields

abbrev pub hour_of : List (List ℕ) → List ℕ
hour_of fields = first_field (other_fields fields)

abbrev pub day_of : List (List ℕ) → List ℕ
day_of fields = first_field (other_fields (other_fields fields))

abbrev pub month_of : List (List ℕ) → List ℕ
month_of fields = first_field (other_fields (other_fields (other_fields fields)))

abbrev pub weekday_of : List (List ℕ) → List ℕ
weekday_of fields = first_field (other_fields (other_fields (other_fields (other_fields fields))))

-- up to five fields of the grammar
abbrev pub is_mask : List ℕ → Bool
is_mask mask =
    let fields = fields_of mask in
    nat_le (length fields) 5
    && are_fields (minute_of fields) (hour_of fields) (day_of fields) (month_of fields) (weekday_of fields)

-- the mask matches this minute
abbrev pub mask_matches : List ℕ → CivilMinute → Bool
mask_matches mask at =
    let fields = fields_of mask in
    fields_match (minute_of fields) (hour_of fields) (day_of fields) (month_of fields) (weekday_of fields) at
