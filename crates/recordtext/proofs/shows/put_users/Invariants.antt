use Rattle.std.proofs.Common.{◌≡◌, ◌++◌, drop}
use Rattle.std.specs.List.{flat_map}
use Rattle.recordtext.specs.Text.{user_lines}
use Rattle.recordtext.proofs.shows.put_users.Given as goal

abbrev pub invariant-loop-place : goal.invariant-loop-place
invariant-loop-place l = l.out.items ++ flat_map (user_lines l.bot) (drop l.place l.userfile.users) ≡ l.fn.out.items ++ flat_map (user_lines l.bot)
    l.userfile.users
