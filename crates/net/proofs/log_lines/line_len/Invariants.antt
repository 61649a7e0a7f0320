use Rattle.std.proofs.Common.{◌≤◌}
use Rattle.net.specs.declared.log_lines.TheConstants.{MAX_LOG_LINE}
use Rattle.net.proofs.log_lines.line_len.Given as goal

-- the count is never above the most of a line
abbrev pub invariant-loop-count : goal.invariant-loop-count
invariant-loop-count l = l.count ≤ MAX_LOG_LINE

abbrev pub decreases-loop-count : goal.decreases-loop-count
decreases-loop-count l = l.count
