-- When a timer is due, by when and how it was made (Eggdrop's Tcl commands, at `timer` and `utimer`). Nothing here
-- counts down.
use Rattle.std.specs.Prelude.{◌≡◌, ℕ, ◌+◌, ◌-◌, ◌*◌, ◌/◌, ◌<◌, ◌≤◌, ◌⊎◌}
use Rattle.std.specs.Prelude.{Bool, true, false, ◌&&◌, ◌||◌, ◌==◌, nat_lt, nat_le}
use Rattle.bottimers.specs.declared.timer.TimerKind.{TimerKind}
use Rattle.bottimers.specs.declared.timer.TimerKind.TheVariants.{Minutes, Seconds}
use Rattle.bottimers.specs.declared.timer.Timer.{Timer}

-- the minute that a second lies in, or the second itself
abbrev pub unit_of : TimerKind → ℕ → ℕ
unit_of Minutes t = t / 60
unit_of Seconds t = t

-- the first second of a unit
abbrev pub start_of : TimerKind → ℕ → ℕ
start_of Minutes unit = 60 * unit
start_of Seconds unit = unit

-- the second of the kth occurrence
abbrev pub occurrence : Timer → ℕ → ℕ
occurrence m k = start_of m.kind (unit_of m.kind m.made + m.interval * k)

-- there is a kth occurrence: any from the first on, up to the count if there is one
abbrev pub HasOccurrence : Timer → ℕ → Type 0
HasOccurrence m k = (0 < k) × ((m.count ≡ 0) ⊎ (k ≤ m.count))

-- one of its occurrences is at this second
abbrev pub FallsDue : Timer → ℕ → Type 0
FallsDue m t = (k : ℕ) × HasOccurrence m k × (occurrence m k ≡ t)

-- how many units lie between the making of the timer and a second
abbrev pub age : Timer → ℕ → ℕ
age m t = unit_of m.kind t - unit_of m.kind m.made

-- how many occurrences lie at or before a second if the count is ignored: run or skipped, they are used up
abbrev pub used : Timer → ℕ → ℕ
used m t = age m t / m.interval

-- the latest of those is at the second itself, and the count reaches to it
abbrev pub is_due : ℕ → Timer → Bool
is_due t m = nat_lt 0 (used m t) && (occurrence m (used m t) == t) && (m.count == 0 || nat_le (used m t) m.count)

-- both count the same
abbrev pub is_same_kind : TimerKind → TimerKind → Bool
is_same_kind Minutes Minutes = true
is_same_kind Minutes Seconds = false
is_same_kind Seconds Minutes = false
is_same_kind Seconds Seconds = true

-- due, and of this kind
abbrev pub is_due_of : TimerKind → ℕ → Timer → Bool
is_due_of kind t m = is_same_kind m.kind kind && is_due t m

-- some occurrence is still to come
abbrev pub is_kept : ℕ → Timer → Bool
is_kept t m = m.count == 0 || nat_lt (used m t) m.count

-- how many are still to come, 0 for ever
abbrev pub repeats_left : Timer → ℕ → ℕ
repeats_left m t = m.count - used m t

-- how many units from a second to the next occurrence
abbrev pub units_left : Timer → ℕ → ℕ
units_left m t = unit_of m.kind m.made + m.interval * (used m t + 1) - unit_of m.kind t
