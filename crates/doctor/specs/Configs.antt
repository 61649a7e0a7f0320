-- What a configuration holds that is nobody else's.
use Rattle.std.specs.Prelude.{◌==◌, ◌||◌, not, is_some, Bool, length, Option, None, Some, if◌then◌else◌}
use Rattle.std.specs.List.{list_any}
use Rattle.settings.specs.declared.settings.Server.{Server}
use Rattle.settings.specs.declared.settings.Settings.{Settings}
use Rattle.doctor.specs.declared.modes.FileMode.{FileMode}
use Rattle.doctor.specs.declared.verdict.Verdict.{Verdict}
use Rattle.doctor.specs.declared.verdict.Verdict.TheVariants.{Fine, Note}
use Rattle.doctor.specs.declared.verdict.Fine.TheVariants as Fine
use Rattle.doctor.specs.declared.verdict.Note.TheVariants as Note

abbrev pub has_password : Server → Bool
has_password server = is_some server.pass

-- a server's password, or lines for the server, which may hold one
abbrev pub holds_passwords : Settings → Bool
holds_passwords settings = not (length settings.performs == 0) || list_any has_password settings.servers

abbrev pub config_verdict : Settings → Option FileMode → Verdict
config_verdict settings None = Fine Fine.Config
config_verdict settings (Some mode) = if holds_passwords settings then Note (Note.OpenConfig mode) else Fine Fine.Config
