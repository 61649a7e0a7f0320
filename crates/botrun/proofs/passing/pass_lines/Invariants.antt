use Rattle.std.proofs.Common.{◌≡◌, drop}
use Rattle.serverlink.specs.Talks.{talk_in}
use Rattle.botrun.specs.Passing.{told_all}
use Rattle.botrun.proofs.passing.pass_lines.Given as goal

-- the lines that are left, after those so far, are all of them
abbrev pub invariant-loop-line : goal.invariant-loop-line
invariant-loop-line l = told_all (drop l.line-index l.report.lines) (talk_in l.uplink.session) ≡ told_all l.report.lines (talk_in l.fn.uplink.session)
