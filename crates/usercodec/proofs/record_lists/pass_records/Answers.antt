use Rattle.std.proofs.Common.{◌++◌, ◌∷◌, [], refl}
use Rattle.std.proofs.lemmas.Result.{err_from_is_err_and}
use Rattle.usercodec.specs.Records.{record_at, so_many_records_at}
use Rattle.usercodec.proofs.ItemSteps.{alone, ends, goes_on, is_done}
use Rattle.usercodec.proofs.PassLaws.{starts}
use Rattle.usercodec.proofs.record_lists.pass_records.Goals as goal

pub loop-init : goal.loop-init
loop-init c = ([], starts (alone record_at) c.args.count c.args.reader.now)

pub returns-in_err-pass_record : goal.returns-in_err-pass_record
returns-in_err-pass_record c =
    let p = err_from_is_err_and c.from_residual.result c.from_residual.ensures.1 in
    rw (p.1, p.2) (ends (alone record_at) c.in_err-pass_record.field-0.0 c.args.count c.loop.counter c.loop.invariant.0 c.loop.reader
    (so_many_records_at c.args.count c.args.reader.now) c.loop.invariant.0 c.loop-test.true refl c.in_err-pass_record.ensures c.loop.invariant.1)

pub loop-preserved : goal.loop-preserved
loop-preserved c =
    let passed = c.in_ok-pass_record.ensures in (
      c.loop.invariant.0 ++ passed.0 ∷ [],
      goes_on (alone record_at) c.args.count c.loop.counter c.loop.invariant.0 c.loop.reader passed.0 c.pass_record.new.reader
          (so_many_records_at c.args.count c.args.reader.now) c.loop.invariant.0 c.loop-test.true refl passed.1 c.loop.invariant.1,
    )

pub returns : goal.returns
returns c = (
  c.loop.invariant.0,
  is_done (alone record_at) c.args.count c.loop.counter c.loop.invariant.0 c.loop.reader (so_many_records_at c.args.count c.args.reader.now)
      c.loop-test.false c.loop.invariant.1,
)
