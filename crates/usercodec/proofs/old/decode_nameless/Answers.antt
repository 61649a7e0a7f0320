use Rattle.std.proofs.Common.{arith}
use Rattle.usercodec.proofs.OldLaws.{nameless_sort}
use Rattle.usercodec.proofs.SortLaws.{decodes}
use Rattle.usercodec.proofs.old.decode_nameless.Goals as goal

pub overflow_sub-result : goal.overflow_sub-result
overflow_sub-result c =
    (decodes nameless_sort c.args.bytes.now c.new-reader.result c.in_ok-value.value c.nameless_change.new.reader c.len.result
    (λ i. omega (arith, c.type_inv.bytes i)) c.new-reader.ensures c.len.ensures c.in_ok-value.ensures).0

pub returns : goal.returns
returns c =
    let whole = (decodes nameless_sort c.args.bytes.now c.new-reader.result c.in_ok-value.value c.nameless_change.new.reader c.len.result
    (λ i. omega (arith, c.type_inv.bytes i)) c.new-reader.ensures c.len.ensures c.in_ok-value.ensures).1 in
    (whole.0, whole.1)
