use Rattle.std.proofs.Common.{◌≡◌, map, take, drop}
use Rattle.eggprocs.specs.Marks.{told_ban}
use Rattle.eggprocs.proofs.marks.some_bans.Given as goal

-- the bans so far
abbrev pub invariant-loop-count : goal.invariant-loop-count
invariant-loop-count l = l.actions ≡ map (told_ban l.call) (take l.count (drop l.left_out l.userfile.bans))
