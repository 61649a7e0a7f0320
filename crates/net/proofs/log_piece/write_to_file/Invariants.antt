use Rattle.std.proofs.Common.{length}
use Rattle.net.specs.Logs.{EndsWith}
use Rattle.net.proofs.log_piece.write_to_file.Given as goal

-- what waits is the end of what waited
abbrev pub invariant-loop-waiting : goal.invariant-loop-waiting
invariant-loop-waiting l = EndsWith l.fn.waiting.items l.waiting.items

abbrev pub decreases-loop-waiting : goal.decreases-loop-waiting
decreases-loop-waiting l = length l.waiting.items
