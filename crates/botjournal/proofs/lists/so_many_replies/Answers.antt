use Rattle.std.proofs.Common.{[], refl}
use Rattle.usercodec.specs.Records.{items_at}
use Rattle.botjournal.specs.Bases.{reply_at}
use Rattle.usercodec.proofs.ItemSteps.{goes_on, is_done}
use Rattle.usercodec.proofs.ItemSteps.{alone, fails, fails_told}
use Rattle.botjournal.proofs.lists.so_many_replies.Goals as goal

pub returns-in-Err-clause-value : goal.returns-in-Err-clause-value
returns-in-Err-clause-value c =
    fails (alone reply_at) c.in-Err.error c.args.count c.loop.counter c.loop.replies.items c.loop.reader
    (items_at (alone reply_at) c.args.count [] c.args.reader.now) c.loop-test.true (fails_told c.in-Err.error (reply_at c.loop.reader) c.in-Err.ensures)
    c.loop.invariant

pub loop-preserved : goal.loop-preserved
loop-preserved c =
    rw c.in_ok-push-in-Ok.ensures.items (goes_on (alone reply_at) c.args.count c.loop.counter c.loop.replies.items c.loop.reader c.in-Ok.reply
    c.reply.new.reader
    (items_at (alone reply_at) c.args.count [] c.args.reader.now) c.loop.replies.items c.loop-test.true refl c.in-Ok.ensures c.loop.invariant)

pub returns-clause-value : goal.returns-clause-value
returns-clause-value c =
    is_done (alone reply_at) c.args.count c.loop.counter c.loop.replies.items c.loop.reader (items_at (alone reply_at) c.args.count [] c.args.reader.now)
    c.loop-test.false c.loop.invariant
