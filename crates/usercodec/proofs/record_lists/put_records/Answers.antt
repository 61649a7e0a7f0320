use Rattle.std.proofs.Common.{[], arith}
use Rattle.usercodec.specs.Records.{record_bytes}
use Rattle.usercodec.proofs.WriterLaws.{no_room}
use Rattle.usercodec.proofs.record_lists.put_records.Goals as goal

pub returns-in_err-put_record-clause-memory : goal.returns-in_err-put_record-clause-memory
returns-in_err-put_record-clause-memory c =
    no_room record_bytes c.args.records.now c.loop-value.value-index c.value-item.result [] c.args.out.now c.loop-value.out
    c.from_residual.result (omega arith) c.value-item.is c.loop-value.invariant.bytes c.loop-value.invariant.capacity c.in_err-put_record.ensures.memory
