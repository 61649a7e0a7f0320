use Rattle.std.proofs.Common.{arith}
use Rattle.botcore.proofs.AutomaticLemmas.{no_channels}
use Rattle.botcore.proofs.automatic.join_all.Goals as goal

pub returns-in-len1-up-clause-needs_none : goal.returns-in-len1-up-clause-needs_none
returns-in-len1-up-clause-needs_none c =
    λ none. c.joins_of.ensures.needs_none (no_channels c.args.params.now c.args.channels.now (omega arith) none)
