use Rattle.std.specs.List.{AllByRecursion}
use Rattle.sharelink.specs.Shapes.{HasGoodRecords}
use Rattle.live.proofs.network.Network.take_from_leaves.Given as goal

-- the records of those so far are of good shape
abbrev pub invariant-loop-end : goal.invariant-loop-end
invariant-loop-end l = AllByRecursion HasGoodRecords l.packets.items
