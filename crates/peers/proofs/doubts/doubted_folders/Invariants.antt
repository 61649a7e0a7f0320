use Rattle.std.proofs.Common.{◌≡◌, take}
use Rattle.peers.specs.Doubts.{doubted_folders}
use Rattle.peers.proofs.doubts.doubted_folders.Given as goal

-- those of the leaves so far
abbrev pub invariant-loop-place : goal.invariant-loop-place
invariant-loop-place l = l.folders.items ≡ doubted_folders (take l.place-index l.doubts)
