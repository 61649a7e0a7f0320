use Rattle.std.proofs.Common.{◌≡◌, ◌++◌, map, take, drop}
use Rattle.userfile.specs.Apply.{marked}
use Rattle.userfile.proofs.bans.set_sticky.Given as goal

-- the bans before the index are marked, and the rest are as they were
abbrev pub invariant-loop-ban : goal.invariant-loop-ban
invariant-loop-ban l = l.bans ≡ map (marked l.channel l.mask l.on) (take l.ban-index l.initial.bans) ++ drop l.ban-index l.initial.bans
