use Rattle.botrun.proofs.TakingLemmas.{goes_on, quiet_turn, stays}
use Rattle.botrun.proofs.process.Process.pump.Goals as goal

pub loop-ask-init : goal.loop-ask-init
loop-ask-init g c = record { goes_on = stays _ _ _ _; up = c.requires.up }

pub loop-ask-preserved : goal.loop-ask-preserved
loop-ask-preserved g c = record {
  goes_on = goes_on _ _ _ _ _ _ _ _ c.loop-ask.invariant.goes_on (quiet_turn _ _ _ _ _ _ _ _ _ _ _ c.in_ok-outcome.ensures.turn);
  up = c.in_ok-outcome.ensures.up;
}
