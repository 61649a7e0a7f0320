use Rattle.botrun.proofs.StationLemmas.{up_at}
use Rattle.botrun.proofs.TakingLemmas.{goes_further}
use Rattle.botrun.proofs.process.Process.follow.Goals as goal

pub pump-requires : goal.pump-requires
pump-requires g c =
    let passed = c.in_ok-pass.ensures in
    record { up = up_at _ _ _ _ _ _ _ _ passed.past passed.told (c.requires.up passed.done) }

pub returns : goal.returns
returns g c = record {
  goes_on = goes_further _ _ _ _ _ _ _ _ c.in_ok-pump.ensures.goes_on c.in_ok-compact_if_due.ensures.goes_on;
  up = c.in_ok-compact_if_due.ensures.up;
}
