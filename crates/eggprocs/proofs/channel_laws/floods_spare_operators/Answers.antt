use Rattle.eggprocs.proofs.FloodLemmas.{floods-only, floods-nowhere, floods-later, joiners-banned}
use Rattle.eggprocs.proofs.channel_laws.floods_spare_operators.Goals as goal

pub returns : goal.returns
returns c = record { kickfloods = floods-only; nowhere = floods-nowhere; later = floods-later; joins = joiners-banned }
