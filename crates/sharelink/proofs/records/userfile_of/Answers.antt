use Rattle.std.proofs.Common.{sym, subst, List}
use Rattle.std.specs.Prelude.{IsTrue}
use Rattle.std.specs.List.{list_all}
use Rattle.userfile.specs.declared.user.User.{User}
use Rattle.userfile.specs.declared.ban.Ban.{Ban}
use Rattle.userfile.specs.Together.{is_user, is_good_ban}
use Rattle.sharelink.proofs.Lists.{are_users, are_bans}
use Rattle.sharelink.proofs.records.userfile_of.Goals as goal

pub from_records-requires-clause-users : goal.from_records-requires-clause-users
from_records-requires-clause-users c =
    subst (λ (us : List User). IsTrue (list_all is_user us)) (sym c.in_ok-users.ensures.users) (are_users c.args.items.items c.requires.good)

pub from_records-requires-clause-bans : goal.from_records-requires-clause-bans
from_records-requires-clause-bans c =
    subst (λ (bs : List Ban). IsTrue (list_all is_good_ban bs)) (sym c.in_ok-users.ensures.bans) (are_bans c.args.items.items c.requires.good)
