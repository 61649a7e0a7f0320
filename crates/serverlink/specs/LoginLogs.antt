-- What a login leaves in the log: fixed texts, and nothing of its lines or of the password.
use Rattle.std.specs.Prelude.{ℕ, List, Some, codes}
use Rattle.net.specs.Logs.{Logged, Notes}
use Rattle.serverlink.specs.declared.login_entry.LoginEntry.{LoginEntry}
use Rattle.serverlink.specs.declared.login_entry.LoginEntry.TheVariants.{Told, Accepted}

abbrev pub text_of : LoginEntry → List ℕ
text_of Told = codes "> a line of the registration"
text_of Accepted = codes "the server accepts the login"

-- since then, the log has noted nothing but such texts
pub data HasNoted (now : ℕ) (start : Logged) : Logged → Type 0 where
  so_far : HasNoted now start start
  more : {before after : Logged} (entry : LoginEntry) → HasNoted now start before → Notes now (Some (text_of entry)) before after
      → HasNoted now start after
