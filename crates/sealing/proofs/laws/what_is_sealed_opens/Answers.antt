use Rattle.sealing.proofs.OnceLaws.{sealed_opens}
use Rattle.sealing.proofs.laws.what_is_sealed_opens.Goals as goal

pub returns : goal.returns
returns c = sealed_opens
