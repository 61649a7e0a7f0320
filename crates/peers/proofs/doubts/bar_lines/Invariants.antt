use Rattle.std.proofs.Common.{◌≡◌, take}
use Rattle.std.specs.List.{flat_map}
use Rattle.handshake.specs.Books.{bar_line}
use Rattle.peers.proofs.doubts.bar_lines.Given as goal

-- those of the folders so far
abbrev pub invariant-loop-made : goal.invariant-loop-made
invariant-loop-made l = l.lines.items ≡ flat_map bar_line (take l.made-index l.folders)
