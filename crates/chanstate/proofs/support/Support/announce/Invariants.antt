use Rattle.std.proofs.Common.{◌≡◌, drop}
use Rattle.chanstate.specs.Announced.{announced}
use Rattle.chanstate.proofs.support.Support.announce.Given as goal

-- the tokens that are left lead from here to where all lead from the start
abbrev pub invariant-loop-token : goal.invariant-loop-token
invariant-loop-token l = announced (drop l.token-index l.tokens) l.self ≡ announced l.tokens l.initial.self
