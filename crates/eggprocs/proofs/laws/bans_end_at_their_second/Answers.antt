use Rattle.eggprocs.proofs.EndLemmas.{expire-only, ban-spares}
use Rattle.eggprocs.proofs.laws.bans_end_at_their_second.Goals as goal

pub returns : goal.returns
returns c = record { expire = expire-only; ban = ban-spares }
