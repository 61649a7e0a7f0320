use Rattle.std.proofs.Common.{◌≡◌, ◌++◌, drop}
use Rattle.std.specs.List.{flat_map}
use Rattle.recordtext.specs.Text.{ban_lines}
use Rattle.recordtext.proofs.shows.put_bans.Given as goal

abbrev pub invariant-loop-place : goal.invariant-loop-place
invariant-loop-place l = l.out.items ++ flat_map (ban_lines l.bot) (drop l.place l.userfile.bans) ≡ l.fn.out.items ++ flat_map (ban_lines l.bot) l.userfile.bans
