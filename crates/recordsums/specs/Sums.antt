-- When the log shows the sum of a bot's records.
use Rattle.std.specs.Prelude.{ℕ, Bool, false, ◌-◌, ◌==◌, ◌&&◌, ◌||◌, not, nat_le, Option, Some, None}
use Rattle.recordsums.specs.declared.sums.Sums.{Sums}
use Rattle.recordsums.specs.declared.sums.TheConstants.{APART}

abbrev pub untold : Sums
untold = record { version = None; since = 0 }

abbrev pub told_at : ℕ → ℕ → Sums
told_at version now = record { version = Some version; since = now }

abbrev pub is_told : Option ℕ → ℕ → Bool
is_told (Some told) version = told == version
is_told None version = false

-- The version has changed since the last time, and either 5 seconds have passed since then, or the bot ends.
abbrev pub is_due : Sums → ℕ → Bool → ℕ → Bool
is_due sums version is_last now = not (is_told sums.version version) && (is_last || nat_le APART (now - sums.since))
