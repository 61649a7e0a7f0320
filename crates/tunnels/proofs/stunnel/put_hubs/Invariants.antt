use Rattle.std.proofs.Common.{◌≡◌, ◌++◌, take}
use Rattle.tunnels.specs.Stunnels.{hubs_text}
use Rattle.tunnels.proofs.stunnel.put_hubs.Given as goal

-- the sections of the hubs so far are written
abbrev pub invariant-loop-hub : goal.invariant-loop-hub
invariant-loop-hub l = l.out.items ≡ l.fn.out.items ++ hubs_text l.folder l.leaf (take l.hub-index l.hubs)
