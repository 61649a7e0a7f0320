use Rattle.std.proofs.Common.{Err}
use Rattle.botjournal.proofs.OpenLaws.{opened_texts, opens, opens_nothing, not_refused}
use Rattle.botjournal.proofs.journal.BotJournal.open.Goals as goal

pub read_texts-requires-clause-found : goal.read_texts-requires-clause-found
read_texts-requires-clause-found g c = opened_texts g.D.Disk.state c.args.first c.args.second c.in-Ok.texts c.in-Ok.ensures

pub returns-in-Ok-clause-row : goal.returns-in-Ok-clause-row
returns-in-Ok-clause-row g c =
    opens g.D.Disk.state c.args.first c.args.second c.in-Ok.texts c.in-Ok.ensures c.read_texts.result c.read_texts.ensures.row

pub returns-in-Ok-clause-never_refused : goal.returns-in-Ok-clause-never_refused
returns-in-Ok-clause-never_refused g c =
    not_refused g.D.Disk.state c.args.first c.args.second c.read_texts.result
    (opens g.D.Disk.state c.args.first c.args.second c.in-Ok.texts c.in-Ok.ensures c.read_texts.result c.read_texts.ensures.row)

pub returns-in-Err-clause-row : goal.returns-in-Err-clause-row
returns-in-Err-clause-row g c = opens_nothing g.D.Disk.state c.args.first c.args.second c.in-Err.returned c.in-Err.ensures

pub returns-in-Err-clause-never_refused : goal.returns-in-Err-clause-never_refused
returns-in-Err-clause-never_refused g c =
    not_refused g.D.Disk.state c.args.first c.args.second (Err c.in-Err.returned)
    (opens_nothing g.D.Disk.state c.args.first c.args.second c.in-Err.returned c.in-Err.ensures)
