use Rattle.std.proofs.Common.{◌≡◌, false, take}
use Rattle.std.specs.List.{list_any}
use Rattle.eggprocs.specs.Ends.{is_ended_of}
use Rattle.eggprocs.proofs.ends.holds_ended.Given as goal

-- none of the bans so far is of the channel and the mask, and has ended
abbrev pub invariant-loop-place : goal.invariant-loop-place
invariant-loop-place l = list_any (is_ended_of l.view.second l.channel l.mask) (take l.place l.userfile.bans) ≡ false
