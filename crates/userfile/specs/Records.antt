-- What a userfile holds, as plain data.
use Rattle.std.specs.Prelude.{List, []}
use Rattle.userfile.specs.declared.user.User.{User}
use Rattle.userfile.specs.declared.ban.Ban.{Ban}

-- the users and the bans, each in the order in which they were added
pub record Records : Type 0 where
  pub users : List User
  pub bans : List Ban

-- the userfile before the first change
abbrev pub no_records : Records
no_records = record { users = []; bans = [] }
