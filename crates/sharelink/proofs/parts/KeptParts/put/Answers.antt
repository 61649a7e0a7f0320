use Rattle.std.proofs.Common.{◌-◌}
use Rattle.sharelink.proofs.PartLaws.{good-set}
use Rattle.sharelink.proofs.parts.KeptParts.put.Goals as goal

pub invariant_of-self : goal.invariant_of-self
invariant_of-self c = good-set c.self.inside.parts.items (c.from.result - 1) c.args.records c.self.invariant c.requires.good
