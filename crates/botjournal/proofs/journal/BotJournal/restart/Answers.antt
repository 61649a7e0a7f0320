use Rattle.botjournal.proofs.OpenLaws.{restarted_texts, restarts, restarts_nothing}
use Rattle.botjournal.proofs.journal.BotJournal.restart.Goals as goal

pub read_texts-requires-clause-found : goal.read_texts-requires-clause-found
read_texts-requires-clause-found g c = restarted_texts g.D.Disk.state c.self.inside.texts c.in-Ok.texts c.in-Ok.ensures

pub returns-in-Ok-clause-row : goal.returns-in-Ok-clause-row
returns-in-Ok-clause-row g c =
    rw (← c.self.view_is) (restarts g.D.Disk.state c.self.inside.texts c.in-Ok.texts c.in-Ok.ensures c.read_texts.result c.read_texts.ensures.row)

pub returns-in-Err-clause-row : goal.returns-in-Err-clause-row
returns-in-Err-clause-row g c = rw (← c.self.view_is) (restarts_nothing g.D.Disk.state c.self.inside.texts c.in-Err.returned c.in-Err.ensures)
