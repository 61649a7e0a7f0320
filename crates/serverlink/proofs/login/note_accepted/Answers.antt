use Rattle.serverlink.specs.LoginLogs.{so_far}
use Rattle.serverlink.specs.declared.login_entry.LoginEntry.TheVariants.{Accepted}
use Rattle.serverlink.proofs.LoginLogLemmas.{noted_one}
use Rattle.serverlink.proofs.login.note_accepted.Goals as goal

pub returns-then-accepted : goal.returns-then-accepted
returns-then-accepted c = noted_one c.args.shows.now c.args.log.now c.note.new.self Accepted c.note.ensures.noted

pub returns-else-accepted : goal.returns-else-accepted
returns-else-accepted c = so_far
