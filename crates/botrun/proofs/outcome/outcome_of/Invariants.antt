use Rattle.std.proofs.Common.{◌≡◌, drop}
use Rattle.botrun.specs.Outcomes.{outcome_of}
use Rattle.botrun.proofs.outcome.outcome_of.Given as goal

-- those so far tell nothing
abbrev pub invariant-loop-report : goal.invariant-loop-report
invariant-loop-report l = outcome_of (drop l.report-index l.reports) ≡ outcome_of l.reports
