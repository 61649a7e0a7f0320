use Rattle.serverlink.specs.LoginLogs.{so_far}
use Rattle.serverlink.specs.declared.login_entry.LoginEntry.TheVariants.{Told}
use Rattle.serverlink.proofs.LoginLogLemmas.{noted_one}
use Rattle.serverlink.proofs.login.note_line.Goals as goal

pub returns-then-shows : goal.returns-then-shows
returns-then-shows c = noted_one c.args.shows.now c.args.log.now c.note.new.self Told c.note.ensures.noted

pub returns-else-shows : goal.returns-else-shows
returns-else-shows c = so_far
