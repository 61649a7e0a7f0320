use Rattle.botcore.proofs.AskLemmas.{HasMoreAsks-asked}
use Rattle.botcore.proofs.acting.Doing.ask.Goals as goal

pub returns-clause-kept : goal.returns-clause-kept
returns-clause-kept g c = HasMoreAsks-asked c.args.link.now c.in_ok-change.change c.ask.result c.ask.new.self c.ask.ensures.row
