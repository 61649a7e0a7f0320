use Rattle.std.proofs.Common.{[], refl}
use Rattle.usercodec.specs.Records.{items_at}
use Rattle.botjournal.specs.Bases.{request_at}
use Rattle.usercodec.proofs.ItemSteps.{goes_on, is_done}
use Rattle.usercodec.proofs.ItemSteps.{alone, fails}
use Rattle.botjournal.proofs.requests.so_many_requests.Goals as goal

pub returns-in-Err-clause-value : goal.returns-in-Err-clause-value
returns-in-Err-clause-value c =
    fails (alone (request_at c.args.layout)) c.in-Err.error c.args.count c.loop.counter c.loop.requests.items c.loop.reader
    (items_at (alone (request_at c.args.layout)) c.args.count [] c.args.reader.now) c.loop-test.true c.in-Err.ensures c.loop.invariant

pub loop-preserved : goal.loop-preserved
loop-preserved c =
    rw c.in_ok-push-in-Ok.ensures.items (goes_on (alone (request_at c.args.layout)) c.args.count c.loop.counter c.loop.requests.items c.loop.reader c.in-Ok.request
    c.request.new.reader
    (items_at (alone (request_at c.args.layout)) c.args.count [] c.args.reader.now) c.loop.requests.items c.loop-test.true refl c.in-Ok.ensures c.loop.invariant)

pub returns-clause-value : goal.returns-clause-value
returns-clause-value c =
    is_done (alone (request_at c.args.layout)) c.args.count c.loop.counter c.loop.requests.items c.loop.reader (items_at (alone (request_at c.args.layout)) c.args.count [] c.args.reader.now)
    c.loop-test.false c.loop.invariant
