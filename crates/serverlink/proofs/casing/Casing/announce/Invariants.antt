use Rattle.std.proofs.Common.{◌≡◌, drop}
use Rattle.serverlink.specs.Casings.{with_tokens}
use Rattle.serverlink.proofs.casing.Casing.announce.Given as goal

-- the tokens that are left lead from here to where all lead from the start
abbrev pub invariant-loop-token : goal.invariant-loop-token
invariant-loop-token l = with_tokens (drop l.token-index l.tokens) l.self ≡ with_tokens l.tokens l.initial.self
