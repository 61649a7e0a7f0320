use Rattle.std.proofs.Common.{◌≡◌, ◌++◌, map, take, drop}
use Rattle.userfile.specs.Index.{moved_up}
use Rattle.userfile.proofs.index.move_up.Given as goal

-- the listings before the index have moved, and the rest are as they were
abbrev pub invariant-loop-held : goal.invariant-loop-held
invariant-loop-held l = l.group ≡ map (moved_up l.place) (take l.held-index l.initial.group) ++ drop l.held-index l.initial.group
