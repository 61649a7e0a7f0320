use Rattle.std.proofs.Common.{arith}
use Rattle.chanstate.specs.EventShape.{with_account}
use Rattle.chanstate.proofs.MapLemmas.{mapped_at}
use Rattle.chanstate.proofs.accounts.add_account.Goals as goal

pub loop-event-preserved : goal.loop-event-preserved
loop-event-preserved c =
    mapped_at (with_account c.args.account.now) _ c.loop-event.event-items c.loop-event.event-index c.event-item.result c.set_account.new.self (omega arith)
    (omega arith) c.loop-event.invariant c.in_ok-set_account.ensures
