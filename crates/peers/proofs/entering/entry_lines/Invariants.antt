use Rattle.std.proofs.Common.{◌≡◌, take}
use Rattle.std.specs.List.{flat_map}
use Rattle.peers.specs.Entering.{entry_of}
use Rattle.peers.proofs.entering.entry_lines.Given as goal

-- those of the guests so far
abbrev pub invariant-loop-guest : goal.invariant-loop-guest
invariant-loop-guest l = l.lines.items ≡ flat_map entry_of (take l.guest-index l.guests)
