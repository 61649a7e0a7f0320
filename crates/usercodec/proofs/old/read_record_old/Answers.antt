use Rattle.std.proofs.Common.{arith}
use Rattle.usercodec.proofs.OldLaws.{record_sort_old}
use Rattle.usercodec.proofs.SortLaws.{is_good, is_front, is_used, is_read}
use Rattle.usercodec.proofs.old.read_record_old.Goals as goal

pub returns-clause-good : goal.returns-clause-good
returns-clause-good c = is_good record_sort_old c.args.bytes.now c.decode_record.result (λ i. omega (arith, c.type_inv.bytes i)) c.decode_record.ensures

pub returns-clause-front : goal.returns-clause-front
returns-clause-front c = is_front record_sort_old c.args.bytes.now c.decode_record.result (λ i. omega (arith, c.type_inv.bytes i)) c.decode_record.ensures

pub returns-clause-used : goal.returns-clause-used
returns-clause-used c = is_used record_sort_old c.args.bytes.now c.decode_record.result (λ i. omega (arith, c.type_inv.bytes i)) c.decode_record.ensures

pub returns-clause-only : goal.returns-clause-only
returns-clause-only c = λ value rest good parts.
    is_read record_sort_old c.args.bytes.now c.decode_record.result value rest (λ i. omega (arith, c.type_inv.bytes i)) c.decode_record.ensures good parts
