use Rattle.std.proofs.Common.{◌≡◌, drop}
use Rattle.turns.specs.Queues.{packets_in}
use Rattle.botrun.proofs.quiet.are_quiet.Given as goal

-- the packets are those of the reports that are left
abbrev pub invariant-loop-report : goal.invariant-loop-report
invariant-loop-report l = packets_in l.reports ≡ packets_in (drop l.report-index l.reports)
