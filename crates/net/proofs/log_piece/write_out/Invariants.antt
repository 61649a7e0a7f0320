use Rattle.std.proofs.Common.{length}
use Rattle.net.specs.Logs.{EndsWith}
use Rattle.net.proofs.log_piece.write_out.Given as goal

-- what waits is the end of what waited
abbrev pub invariant-loop-output : goal.invariant-loop-output
invariant-loop-output g l = EndsWith l.fn.waiting.items l.waiting.items

abbrev pub decreases-loop-output : goal.decreases-loop-output
decreases-loop-output g l = length l.waiting.items
