use Rattle.std.proofs.Common.{◌≡◌, ◌++◌}
use Rattle.indexmap.specs.IndexMap.{values}
use Rattle.userfile.proofs.gather.user_copies.Given as goal

-- the copies so far, and the users that are left
abbrev pub invariant-loop-user : goal.invariant-loop-user
invariant-loop-user l = l.copies.items ++ l.user-iterator ≡ values l.users
