-- Which commands of an administrator ask for a change of the records.
use Rattle.std.specs.Prelude.{Bool, true, false}
use Rattle.control.specs.declared.admin_command.AdminCommand.{AdminCommand}
use Rattle.control.specs.declared.admin_command.AdminCommand.TheVariants.{Change, Show, ShowJson, Changes, Status, StatusJson, Bind, Unbind, Say, Compact, Jump}
use Rattle.control.specs.declared.admin_command.AdminCommand.TheVariants.{Renew, Trust, HandOver, Reload, Reopen, Backup, Join, Part, Unignore, Die}

abbrev pub is_change : AdminCommand → Bool
is_change (Change change) = true
is_change Show = false
is_change ShowJson = false
is_change (Changes from) = false
is_change Status = false
is_change StatusJson = false
is_change (Bind words) = false
is_change (Unbind words) = false
is_change (Say line) = false
is_change Compact = false
is_change Jump = false
is_change (Renew leaf) = false
is_change Trust = false
is_change (HandOver leaf) = false
is_change Reload = false
is_change Reopen = false
is_change (Backup folder) = false
is_change (Join words) = false
is_change (Part channel) = false
is_change (Unignore key) = false
is_change (Die text) = false
