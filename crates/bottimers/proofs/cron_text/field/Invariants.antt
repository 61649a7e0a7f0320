use Rattle.std.proofs.Common.{◌≡◌, ℕ, ◌||◌}
use Rattle.bottimers.specs.CronSets.{has}
use Rattle.bottimers.specs.CronText.{is_field, in_field}
use Rattle.bottimers.proofs.CronFields.{is_rest, in_rest, rest_of, rest_length}
use Rattle.bottimers.proofs.cron_text.field.Given as goal

-- the set so far and that of the rest are that of all
abbrev pub invariant-loop-rest : goal.invariant-loop-rest
invariant-loop-rest l =
    (is_rest l.low l.high (rest_of l.rest) ≡ is_field l.low l.high l.text)
    × ((n : ℕ) → in_field l.low l.high l.text n ≡ (has l.set n || in_rest l.low l.high (rest_of l.rest) n))

abbrev pub decreases-loop-rest : goal.decreases-loop-rest
decreases-loop-rest l = rest_length (rest_of l.rest)
