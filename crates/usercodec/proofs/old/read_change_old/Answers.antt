use Rattle.std.proofs.Common.{arith}
use Rattle.usercodec.proofs.OldLaws.{change_sort_old}
use Rattle.usercodec.proofs.SortLaws.{is_good, is_front, is_used, is_read}
use Rattle.usercodec.proofs.old.read_change_old.Goals as goal

pub returns-clause-good : goal.returns-clause-good
returns-clause-good c = is_good change_sort_old c.args.bytes.now c.decode_change.result (λ i. omega (arith, c.type_inv.bytes i)) c.decode_change.ensures

pub returns-clause-front : goal.returns-clause-front
returns-clause-front c = is_front change_sort_old c.args.bytes.now c.decode_change.result (λ i. omega (arith, c.type_inv.bytes i)) c.decode_change.ensures

pub returns-clause-used : goal.returns-clause-used
returns-clause-used c = is_used change_sort_old c.args.bytes.now c.decode_change.result (λ i. omega (arith, c.type_inv.bytes i)) c.decode_change.ensures

pub returns-clause-only : goal.returns-clause-only
returns-clause-only c = λ change rest good parts.
    is_read change_sort_old c.args.bytes.now c.decode_change.result change rest (λ i. omega (arith, c.type_inv.bytes i)) c.decode_change.ensures good parts
