use Rattle.std.proofs.Common.{Err}
use Rattle.botjournal.specs.declared.entry.Entry.TheVariants.{ReqDone}
use Rattle.sharelink.proofs.WritingLaws.{appended_written}
use Rattle.sharelink.proofs.leaf_state.LeafState.end_request.Goals as goal

pub returns-clause-row : goal.returns-clause-row
returns-clause-row g c = appended_written c.args.ledger.now c.append.new.self (ReqDone c.args.request) (Err c.in-Err.error) c.in-Err.ensures.row
