use Rattle.wildmask.proofs.BitLemmas.{bit_at-with}
use Rattle.wildmask.proofs.places.Places.with.Goals as goal

pub returns : goal.returns
returns c = λ q. bit_at-with c.args.self.bits c.args.place q c.requires
