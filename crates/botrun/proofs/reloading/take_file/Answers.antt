use Rattle.watching.proofs.SendingLemmas.{quietly_stays}
use Rattle.botrun.proofs.reloading.take_file.Goals as goal

-- before the binds change, the bot has made no step
pub returns-then-is_some-clause-quietly : goal.returns-then-is_some-clause-quietly
returns-then-is_some-clause-quietly g c = quietly_stays _ _ _ _ _ c.requires.watched

pub returns-in_err-new-clause-quietly : goal.returns-in_err-new-clause-quietly
returns-in_err-new-clause-quietly g c = quietly_stays _ _ _ _ _ c.requires.watched

pub returns-in_err-other-clause-quietly : goal.returns-in_err-other-clause-quietly
returns-in_err-other-clause-quietly g c = quietly_stays _ _ _ _ _ c.requires.watched

pub returns-in_err-account-clause-quietly : goal.returns-in_err-account-clause-quietly
returns-in_err-account-clause-quietly g c = quietly_stays _ _ _ _ _ c.requires.watched
