use Rattle.watching.proofs.SendingLemmas.{quietly_stays}
use Rattle.botrun.proofs.rebinding.unbind_one.Goals as goal

pub returns-then-has_bind : goal.returns-then-has_bind
returns-then-has_bind g c = quietly_stays _ _ _ _ _ c.requires.watched

pub returns-in_err-gone : goal.returns-in_err-gone
returns-in_err-gone g c = quietly_stays _ _ _ _ _ c.requires.watched
