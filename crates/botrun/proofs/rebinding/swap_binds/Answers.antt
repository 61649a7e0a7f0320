use Rattle.watching.proofs.SendingLemmas.{quietly_on}
use Rattle.botrun.proofs.rebinding.swap_binds.Goals as goal

pub returns : goal.returns
returns g c = quietly_on _ _ _ _ _ _ _ _ c.unbind_gone.ensures c.bind_all.ensures.quiet
