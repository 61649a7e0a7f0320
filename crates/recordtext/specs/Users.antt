-- The lines of a user, and of a ban, looked up by place.
use Rattle.std.specs.Prelude.{ℕ, List, [], Option, None, Some}
use Rattle.userfile.specs.declared.user.User.{User}
use Rattle.userfile.specs.declared.ban.Ban.{Ban}
use Rattle.recordtext.specs.Text.{user_lines, ban_lines}

abbrev pub found_user : ℕ → Option User → List ℕ
found_user bot None = []
found_user bot (Some user) = user_lines bot user

abbrev pub found_ban : ℕ → Option Ban → List ℕ
found_ban bot None = []
found_ban bot (Some ban) = ban_lines bot ban
