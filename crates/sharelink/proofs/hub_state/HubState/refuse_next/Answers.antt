use Rattle.std.proofs.Common.{Err}
use Rattle.botjournal.specs.declared.entry.Entry.TheVariants.{Settled}
use Rattle.sharelink.proofs.WritingLaws.{appended_written}
use Rattle.sharelink.proofs.hub_state.HubState.refuse_next.Goals as goal

pub returns-clause-row : goal.returns-clause-row
returns-clause-row g c =
    appended_written c.args.ledger.now c.append.new.self (Settled c.args.leaf c.args.request c.args.fault) (Err c.in-Err.error) c.in-Err.ensures.row
