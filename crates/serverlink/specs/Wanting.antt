-- What a connection sends for the nick that the bot wants.
use Rattle.std.specs.Prelude.{ℕ, ◌++◌, ◌∷◌, [], Bool, false, List, Option, None, Some, codes, option_map, if◌then◌else◌}
use Rattle.rfccase.specs.declared.casemappings.Casemapping.{Casemapping}
use Rattle.ircline.specs.declared.message.Message.{Message}
use Rattle.serverlink.specs.declared.cue.Cue.{Cue}
use Rattle.serverlink.specs.Cues.{nick_by}
use Rattle.serverlink.specs.Regains.{asked, heard, is_due, named, regains}
use Rattle.serverlink.specs.declared.session.Session.{Session}

-- the server gave the bot this nick
abbrev pub with_nick : List ℕ → ℕ → Session → Session
with_nick nick now session = record session { regain = named session.regain nick now }

-- ---- the question whether somebody has the nick

abbrev pub is_nick_due : Session → List ℕ → ℕ → Bool
is_nick_due session wanted now = is_due session.casing.mapping session.regain wanted now

abbrev pub asks_in : Option Session → List ℕ → ℕ → Bool
asks_in None wanted now = false
asks_in (Some session) wanted now = is_nick_due session wanted now

abbrev pub watches_in : Option Session → Bool
watches_in None = false
watches_in (Some session) = session.regain.monitors

-- the lines that are queued, if it is due: a server that has MONITOR is asked by that, too
abbrev pub questions : Option Session → List ℕ → ℕ → List (List ℕ)
questions session wanted now =
    if asks_in session wanted now
    then if watches_in session then (codes "MONITOR + " ++ wanted) ∷ (codes "ISON " ++ wanted) ∷ [] else (codes "ISON " ++ wanted) ∷ []
    else []

abbrev pub with_question : List ℕ → ℕ → Session → Session
with_question wanted now session =
    if is_nick_due session wanted now then record session { regain = asked session.regain now } else session

abbrev pub nick_asked : List ℕ → ℕ → Option Session → Option Session
nick_asked wanted now session = option_map (with_question wanted now) session

-- ---- a message of the server

-- the nick is free, and the bot lacks it
abbrev pub regains_in : Casemapping → Option Session → Message → List ℕ → ℕ → Bool
regains_in mapping None message wanted now = false
regains_in mapping (Some session) message wanted now = regains mapping session.regain message wanted now

-- the line that is queued then
abbrev pub regained : Casemapping → Option Session → Message → List ℕ → ℕ → List (List ℕ)
regained mapping session message wanted now =
    if regains_in mapping session message wanted now then (codes "NICK " ++ wanted) ∷ [] else []

abbrev pub with_message : Casemapping → Message → List ℕ → ℕ → Session → Session
with_message mapping message wanted now session = record session { regain = heard mapping session.regain message wanted now }

abbrev pub nick_heard : Casemapping → Message → List ℕ → ℕ → Option Session → Option Session
nick_heard mapping message wanted now session = option_map (with_message mapping message wanted now) session

-- the message gives the bot another nick
abbrev pub with_nick_of : Option (List ℕ) → ℕ → Option Session → Option Session
with_nick_of None now session = session
with_nick_of (Some nick) now session = option_map (with_nick nick now) session

-- what is said of the nick that the bot wants counts first
abbrev pub nick_noted : Casemapping → Cue → Message → List ℕ → ℕ → Option Session → Option Session
nick_noted mapping cue message wanted now session =
    with_nick_of (nick_by cue message) now (nick_heard mapping message wanted now session)
