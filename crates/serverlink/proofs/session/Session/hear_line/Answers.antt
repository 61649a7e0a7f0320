use Rattle.serverlink.specs.LoginLogs.{so_far}
use Rattle.serverlink.proofs.LoginLogLemmas.{noted_on}
use Rattle.serverlink.proofs.session.Session.hear_line.Goals as goal

pub returns-in_default-clause-logged : goal.returns-in_default-clause-logged
returns-in_default-clause-logged c = so_far

pub returns-in_err-lines-clause-logged : goal.returns-in_err-lines-clause-logged
returns-in_err-lines-clause-logged c = so_far

pub returns-clause-logged : goal.returns-clause-logged
returns-clause-logged c =
    noted_on c.args.shows.now c.args.log.now c.tell_all.new.log c.note_accepted.new.log c.tell_all.ensures.logged c.note_accepted.ensures
