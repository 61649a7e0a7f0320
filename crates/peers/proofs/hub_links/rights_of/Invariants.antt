use Rattle.std.proofs.Common.{◌≡◌, drop, replicate}
use Rattle.handshake.specs.declared.progress.LeafRights.TheVariants.{Asks}
use Rattle.peers.specs.Rights.{limited}
use Rattle.peers.proofs.hub_links.rights_of.Given as goal

-- the lines that are left make of the rights so far those of all lines
abbrev pub invariant-loop-limit : goal.invariant-loop-limit
invariant-loop-limit l = limited (drop l.limit-index l.limits) l.rights.items ≡ limited l.limits (replicate l.places Asks)
