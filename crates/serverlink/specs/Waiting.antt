-- What a connection keeps for the nick that the bot wants, and the lines of the process's own that wait for it.
use Rattle.std.specs.Prelude.{◌≡◌, ◌++◌, ℕ, List, [], drop, take, Option, None, Some, option_map}
use Rattle.rfccase.specs.declared.casemappings.Casemapping.{Casemapping}
use Rattle.ircline.specs.declared.line.Line.{Line}
use Rattle.ircline.specs.declared.line.Line.TheVariants.{Message as a_message, Bad as a_bad_line}
use Rattle.ircline.specs.declared.message.Message.{Message}
use Rattle.net.specs.Connections.{Talk}
use Rattle.serverlink.specs.Casings.{heard, mapping_in}
use Rattle.serverlink.specs.Cues.{cue_of}
use Rattle.serverlink.specs.Regains.{Regaining}
use Rattle.serverlink.specs.Talks.{told_all}
use Rattle.serverlink.specs.Wanting.{nick_asked, nick_noted}
use Rattle.serverlink.specs.declared.session.Session.{Session}

-- how the server compares nicks, and what is known of the one that the bot wants
pub record Wants : Type 0 where
  pub mapping : Casemapping
  pub regain : Regaining

abbrev pub wants_of : Session → Wants
wants_of session = record { mapping = session.casing.mapping; regain = session.regain }

abbrev pub wants_in : Option Session → Option Wants
wants_in session = option_map wants_of session

-- of these lines the last wait
abbrev pub AreLast : List (List ℕ) → List (List ℕ) → Type 0
AreLast lines rest = (sent : ℕ) × (rest ≡ drop sent lines)

-- Of these lines the last wait, and those before them are queued for the server in their order: after the lines
-- `before`, and before the lines `after`. No other line is queued.
pub record TellsFirst (before lines after rest : List (List ℕ)) (old new : Talk) : Type 0 where
  pub sent : ℕ
  pub waits : rest ≡ drop sent lines
  pub told : new ≡ told_all (before ++ (take sent lines ++ after)) old

-- the same; all lines wait without a connection, and none waits once it is lost
abbrev pub TellsWaiting : List (List ℕ) → List (List ℕ) → List (List ℕ) → List (List ℕ) → Option Talk → Option Talk → Type 0
TellsWaiting before lines after rest None new = rest ≡ lines
TellsWaiting before lines after rest (Some old) None = rest ≡ []
TellsWaiting before lines after rest (Some old) (Some new) = TellsFirst before lines after rest old new

-- a connection that stays has asked for the nick if that was due
abbrev pub HasAsked : List ℕ → ℕ → Option Session → Option Session → Type 0
HasAsked wanted now old None = Unit {0}
HasAsked wanted now old (Some new) = Some (wants_of new) ≡ wants_in (nick_asked wanted now old)

-- ---- a line of the server

-- what it says of how the server compares names
abbrev pub with_casing : Message → Session → Session
with_casing message session = record session { casing = heard message session.casing }

abbrev pub casing_heard : Message → Option Session → Option Session
casing_heard message session = option_map (with_casing message) session

-- what it says of the nick, as the server compared nicks before it
abbrev pub message_noted : Message → List ℕ → List ℕ → ℕ → Option Session → Option Session
message_noted message own wanted now old =
    nick_noted (mapping_in old) (cue_of (mapping_in old) message own) message wanted now (casing_heard message old)

-- a connection that stays has taken that in
abbrev pub HasHeardMessage : Message → List ℕ → List ℕ → ℕ → Option Session → Option Session → Type 0
HasHeardMessage message own wanted now old None = Unit {0}
HasHeardMessage message own wanted now old (Some new) = Some (wants_of new) ≡ wants_in (message_noted message own wanted now old)

-- a line that is no message says nothing
abbrev pub HasHeard : Line → List ℕ → List ℕ → ℕ → Option Session → Option Session → Type 0
HasHeard (a_message message) own wanted now old new = HasHeardMessage message own wanted now old new
HasHeard (a_bad_line fault) own wanted now old new = new ≡ old
