-- By which casemapping the server of a connection compares names, as the connection learns it from the server's lines.
use Rattle.std.specs.Prelude.{true, false, ℕ, List, [], ◌∷◌, take, drop, Option, None, Some, if◌then◌else◌, codes}
use Rattle.std.specs.Str.{bytes_eq}
use Rattle.rfccase.specs.declared.casemappings.Casemapping.{Casemapping}
use Rattle.rfccase.specs.declared.casemappings.Casemapping.TheVariants.{Rfc1459}
use Rattle.rfccase.specs.Casemapping.{mapping_named}
use Rattle.ircline.specs.declared.message.Message.{Message}
use Rattle.ircline.specs.Numeric.{is_command}
use Rattle.serverlink.specs.declared.casing.Casing.{Casing}
use Rattle.serverlink.specs.declared.session.Session.{Session}

-- the server has announced nothing
abbrev pub unannounced : Casing
unannounced = record { mapping = Rfc1459; join_read = false }

-- a token CASEMAPPING=NAME of a 005 has this name, and CASEMAPPING alone has an empty one
abbrev pub name_in : List ℕ → Option (List ℕ)
name_in token =
    if bytes_eq token (codes "CASEMAPPING") then Some []
    else if bytes_eq (take 12 token) (codes "CASEMAPPING=") then Some (drop 12 token)
    else None

-- the casemapping of a name holds, unless a JOIN has been read
abbrev pub with_name : Option (List ℕ) → Casing → Casing
with_name None casing = casing
with_name (Some name) casing = if casing.join_read then casing else record casing { mapping = mapping_named name }

abbrev pub with_token : List ℕ → Casing → Casing
with_token token casing = with_name (name_in token) casing

-- tokens in their order
abbrev pub with_tokens : List (List ℕ) → Casing → Casing
with_tokens [] casing = casing
with_tokens (token ∷ more) casing = with_tokens more (with_token token casing)

-- a welcome forgets what was announced before it; each parameter of a 005 after the nick is a token
abbrev pub heard : Message → Casing → Casing
heard message casing =
    if is_command (codes "001") message.command then unannounced
    else if is_command (codes "005") message.command then with_tokens (drop 1 message.params) casing
    else if is_command (codes "JOIN") message.command then record casing { join_read = true }
    else casing

-- ---- when there may be no connection

abbrev pub casing_in : Option Session → Casing
casing_in None = unannounced
casing_in (Some session) = session.casing

abbrev pub mapping_in : Option Session → Casemapping
mapping_in session = (casing_in session).mapping
