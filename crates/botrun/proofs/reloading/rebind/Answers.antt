use Rattle.watching.proofs.SendingLemmas.{quietly_on}
use Rattle.botrun.proofs.reloading.rebind.Goals as goal

pub returns-in-Err-Bind : goal.returns-in-Err-Bind
returns-in-Err-Bind g c = quietly_on _ _ _ _ _ _ _ _ c.swap_binds-swapped.ensures c.swap_binds-back.ensures
