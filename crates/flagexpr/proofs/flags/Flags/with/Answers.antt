use Rattle.flagexpr.proofs.Sets.{set_bit-lt}
use Rattle.flagexpr.proofs.flags.Flags.with.Goals as goal

pub invariant_of-result-2 : goal.invariant_of-result-2
invariant_of-result-2 c = set_bit-lt _ _ c.self.invariant c.place_of.ensures.small
