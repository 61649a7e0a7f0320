use Rattle.std.proofs.Common.{◌≡◌, length}
use Rattle.bottimers.specs.CronText.{fields_of}
use Rattle.bottimers.proofs.cron_text.take_field.Given as goal

-- spaces before a field make no field
abbrev pub invariant-loop-rest : goal.invariant-loop-rest
invariant-loop-rest l = fields_of l.rest ≡ fields_of l.mask

abbrev pub decreases-loop-rest : goal.decreases-loop-rest
decreases-loop-rest l = length l.rest
