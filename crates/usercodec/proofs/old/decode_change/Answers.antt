use Rattle.std.proofs.Common.{arith}
use Rattle.usercodec.proofs.OldLaws.{change_sort_old}
use Rattle.usercodec.proofs.SortLaws.{decodes}
use Rattle.usercodec.proofs.old.decode_change.Goals as goal

pub overflow_sub-result : goal.overflow_sub-result
overflow_sub-result c =
    (decodes change_sort_old c.args.bytes.now c.new-reader.result c.in_ok-value.value c.change_old.new.reader c.len.result
    (λ i. omega (arith, c.type_inv.bytes i)) c.new-reader.ensures c.len.ensures c.in_ok-value.ensures).0

pub returns : goal.returns
returns c =
    let whole = (decodes change_sort_old c.args.bytes.now c.new-reader.result c.in_ok-value.value c.change_old.new.reader c.len.result
    (λ i. omega (arith, c.type_inv.bytes i)) c.new-reader.ensures c.len.ensures c.in_ok-value.ensures).1 in
    (whole.0, whole.1)
