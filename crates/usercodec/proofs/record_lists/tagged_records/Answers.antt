use Rattle.std.proofs.Common.{refl}
use Rattle.usercodec.specs.Records.{record_at, so_many_records_at}
use Rattle.usercodec.proofs.ItemSteps.{alone, fails, fails_may, goes_on, is_done}
use Rattle.usercodec.proofs.record_lists.tagged_records.Goals as goal

pub returns-in-Err-clause-value : goal.returns-in-Err-clause-value
returns-in-Err-clause-value c =
    fails (alone record_at) c.in-Err.error c.args.count c.loop.counter c.loop.records.items c.loop.reader (so_many_records_at c.args.count c.args.reader.now)
    c.loop-test.true (fails_may c.in-Err.error (record_at c.loop.reader) c.in-Err.ensures) c.loop.invariant

pub loop-preserved : goal.loop-preserved
loop-preserved c =
    rw c.in_ok-push-in-Ok.ensures.items (goes_on (alone record_at) c.args.count c.loop.counter c.loop.records.items c.loop.reader c.in-Ok.value
    c.tagged_record.new.reader (so_many_records_at c.args.count c.args.reader.now) c.loop.records.items c.loop-test.true refl c.in-Ok.ensures c.loop.invariant)

pub returns-clause-value : goal.returns-clause-value
returns-clause-value c =
    is_done (alone record_at) c.args.count c.loop.counter c.loop.records.items c.loop.reader (so_many_records_at c.args.count c.args.reader.now) c.loop-test.false
    c.loop.invariant
