use Rattle.std.proofs.Common.{◌≡◌, true, min, take}
use Rattle.std.specs.List.{list_all}
use Rattle.bottimers.specs.CronText.{is_digit, decimal}
use Rattle.bottimers.proofs.cron_text.number.Given as goal

-- digits so far, and their value as far as it matters
abbrev pub invariant-loop-b : goal.invariant-loop-b
invariant-loop-b l =
    (list_all is_digit (take l.b-index l.text) ≡ true) × (l.value ≡ min 1000 (decimal (take l.b-index l.text)))
