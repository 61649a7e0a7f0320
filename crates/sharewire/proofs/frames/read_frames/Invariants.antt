use Rattle.std.proofs.Common.{◌≡◌, ◌++◌, length}
use Rattle.std.specs.List.{flat_map, AllByRecursion}
use Rattle.sharewire.specs.Frames.{frame, IsGoodPacket}
use Rattle.sharewire.proofs.frames.read_frames.Given as goal

-- the bytes are the frames of the packets so far, and what is left
abbrev pub invariant-loop-packets : goal.invariant-loop-packets
invariant-loop-packets l = record {
  parts : l.bytes ≡ flat_map frame l.packets.items ++ l.rest;
  good : AllByRecursion IsGoodPacket l.packets.items;
}

abbrev pub decreases-loop-packets : goal.decreases-loop-packets
decreases-loop-packets l = length l.rest
