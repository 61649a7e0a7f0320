use Rattle.std.proofs.Common.{◌<◌, ◌++◌, List, [], ◌∷◌, length, arith}
use Rattle.bytetext.proofs.Errors.{at_err}
use Rattle.userfile.specs.declared.user.User.{User}
use Rattle.userfile.specs.declared.ban.Ban.{Ban}
use Rattle.protocol.specs.Snapshots.{user_items, ban_items}
use Rattle.sharelink.proofs.records.copies_in.Goals as goal

-- each user and each ban is an item
some_users : (users : List User) (bans : List Ban) → 0 < length users → 0 < length (user_items users ++ ban_items bans)
some_users [] bans some = omega arith
some_users (user ∷ users) bans some = omega arith

some_bans : (users : List User) (bans : List Ban) → 0 < length bans → 0 < length (user_items users ++ ban_items bans)
some_bans [] [] some = omega arith
some_bans [] (ban ∷ bans) some = omega arith
some_bans (user ∷ users) bans some = omega arith

pub returns-in_err-put_users-clause-memory : goal.returns-in_err-put_users-clause-memory
returns-in_err-put_users-clause-memory c =
    at_err c.from_residual.result (some_users c.args.userfile.now.users c.args.userfile.now.bans c.in_err-put_users.ensures.memory)

pub returns-in_err-put_bans-clause-memory : goal.returns-in_err-put_bans-clause-memory
returns-in_err-put_bans-clause-memory c =
    at_err c.from_residual-in_err-put_bans.result (some_bans c.args.userfile.now.users c.args.userfile.now.bans c.in_err-put_bans.ensures.memory)
