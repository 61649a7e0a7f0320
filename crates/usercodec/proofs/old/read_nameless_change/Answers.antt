use Rattle.std.proofs.Common.{arith}
use Rattle.usercodec.proofs.OldLaws.{nameless_sort}
use Rattle.usercodec.proofs.SortLaws.{is_good, is_front, is_used, is_read}
use Rattle.usercodec.proofs.old.read_nameless_change.Goals as goal

pub returns-clause-good : goal.returns-clause-good
returns-clause-good c = is_good nameless_sort c.args.bytes.now c.decode_nameless.result (λ i. omega (arith, c.type_inv.bytes i)) c.decode_nameless.ensures

pub returns-clause-front : goal.returns-clause-front
returns-clause-front c = is_front nameless_sort c.args.bytes.now c.decode_nameless.result (λ i. omega (arith, c.type_inv.bytes i)) c.decode_nameless.ensures

pub returns-clause-used : goal.returns-clause-used
returns-clause-used c = is_used nameless_sort c.args.bytes.now c.decode_nameless.result (λ i. omega (arith, c.type_inv.bytes i)) c.decode_nameless.ensures

pub returns-clause-only : goal.returns-clause-only
returns-clause-only c = λ change rest good parts.
    is_read nameless_sort c.args.bytes.now c.decode_nameless.result change rest (λ i. omega (arith, c.type_inv.bytes i)) c.decode_nameless.ensures good parts
