use Rattle.botrun.proofs.TakingLemmas.{goes_on, quiet_turn, stays}
use Rattle.botrun.proofs.process.Process.compact.Goals as goal

pub returns : goal.returns
returns g c = record {
  goes_on = goes_on _ _ _ _ _ _ _ _ (stays _ _ _ _) (quiet_turn _ _ _ _ _ _ _ _ _ _ _ c.in_ok-outcome.ensures.turn);
  up = c.in_ok-outcome.ensures.up;
}
