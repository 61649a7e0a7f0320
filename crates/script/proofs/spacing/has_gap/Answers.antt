use Rattle.std.proofs.Common.{arith, [], rules}
use Rattle.script.proofs.Gaps.{has_gap-found, has_gap-more, has_gap-all}
use Rattle.script.proofs.spacing.has_gap.Goals as goal

pub loop-word-preserved : goal.loop-word-preserved
loop-word-preserved c =
    has_gap-more c.args.words.now c.loop-word.word-index (record { ref_ptr = (0, 0); now = [] }) _ (omega arith) c.loop-word.invariant (search rules)

pub returns-then-is_empty : goal.returns-then-is_empty
returns-then-is_empty c =
    has_gap-found c.args.words.now c.loop-word.word-index (record { ref_ptr = (0, 0); now = [] }) _ (omega arith) c.loop-word.invariant (search rules)

pub returns : goal.returns
returns c = has_gap-all c.args.words.now c.loop-word.word-index _ (omega arith) c.loop-word.invariant
