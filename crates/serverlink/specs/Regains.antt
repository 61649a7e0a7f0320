-- When the process asks for the bot's own nick back.
use Rattle.std.specs.Prelude.{ℕ, ◌==◌, ◌+◌, ◌-◌, ◌^◌, ◌&&◌, ◌||◌, not, min, nat_le, drop, Bool, true, false, List, Option, None, Some, if◌then◌else◌, codes}
use Rattle.std.specs.List.{list_all, list_any, slice_split, starts_with}
use Rattle.std.specs.Str.{bytes_eq}
use Rattle.rfccase.specs.declared.casemappings.Casemapping.{Casemapping}
use Rattle.rfccase.specs.Casemapping.{is_same_by}
use Rattle.ircline.specs.declared.message.Message.{Message}
use Rattle.ircline.specs.Numeric.{is_command}
use Rattle.serverlink.specs.Cues.{is_by, param}
use Rattle.serverlink.specs.declared.regain.TheConstants.{REGAIN, UNFIT}

-- the bot's nick since a server has welcomed it; the second from which on the process asks whether somebody has the nick
-- that the bot wants, and whether it has asked without an answer; the second from which on it may ask for that nick; whether
-- the server has MONITOR
pub record Regaining : Type 0 where
  pub nick : Option (List ℕ)
  pub asks : ℕ
  pub asked : Bool
  pub tells : ℕ
  pub monitors : Bool

abbrev pub begun : Regaining
begun = record { nick = None; asks = 0; asked = false; tells = 0; monitors = false }

-- so many seconds from now
abbrev pub later_by : ℕ → ℕ → ℕ
later_by seconds now = min (now + seconds) (2 ^ 64 - 1)

-- the server gave the bot this nick: the process asks a minute later, if it is another one than the bot wants
abbrev pub named : Regaining → List ℕ → ℕ → Regaining
named regaining nick now = record regaining { nick = Some nick; asks = later_by REGAIN now; asked = false }

-- a server has welcomed the bot, under another nick than the one that it wants
abbrev pub lacks : Casemapping → Option (List ℕ) → List ℕ → Bool
lacks mapping None wanted = false
lacks mapping (Some nick) wanted = not (is_same_by mapping nick wanted)

-- ---- the question whether somebody has it

-- ISON is due
abbrev pub is_due : Casemapping → Regaining → List ℕ → ℕ → Bool
is_due mapping regaining wanted now = lacks mapping regaining.nick wanted && nat_le regaining.asks now

-- the process has sent ISON: the next one is due a minute later
abbrev pub asked : Regaining → ℕ → Regaining
asked regaining now = record regaining { asks = later_by REGAIN now; asked = true }

-- ---- what the server says of it

-- the token of a 005, with the most nicks that a client may name after it, or without
abbrev pub is_monitor : List ℕ → Bool
is_monitor token = starts_with (λ a b. a == b) token (codes "MONITOR=") || bytes_eq token (codes "MONITOR")

-- each parameter of a 005 after the nick is a token
abbrev pub announces : Message → Bool
announces message = is_command (codes "005") message.command && list_any is_monitor (drop 1 message.params)

abbrev pub announced : Message → Regaining → Regaining
announced message regaining = record regaining { monitors = regaining.monitors || announces message }

-- who had the nick is gone, or has another nick now
abbrev pub is_left : Casemapping → Message → List ℕ → Bool
is_left mapping message wanted =
    is_by mapping message wanted
    && (is_command (codes "QUIT") message.command
    || is_command (codes "NICK") message.command && not (is_same_by mapping (param message 0) wanted))

abbrev pub is_answer : Message → Bool
is_answer message = is_command (codes "303") message.command

abbrev pub is_space : ℕ → Bool
is_space byte = byte == 32

-- the answer to an ISON of one nick names nobody
abbrev pub is_nobody : Message → Bool
is_nobody message = is_answer message && list_all is_space (param message 1)

-- whether a nick stands in a list, whose nicks are separated by commas
abbrev pub has_nick : Casemapping → List ℕ → List ℕ → Bool
has_nick mapping nick list = list_any (λ piece. is_same_by mapping piece nick) (slice_split (λ byte. byte == 44) list)

-- a server with MONITOR says that nobody has the nick any more (731, https://ircv3.net/specs/extensions/monitor)
abbrev pub is_gone : Casemapping → Message → List ℕ → Bool
is_gone mapping message wanted = is_command (codes "731") message.command && has_nick mapping wanted (param message 1)

-- the nick that the bot wants is free
abbrev pub is_free : Casemapping → Regaining → Message → List ℕ → Bool
is_free mapping regaining message wanted =
    is_left mapping message wanted || is_gone mapping message wanted || regaining.asked && is_nobody message

-- the server takes no such nick
abbrev pub is_unfit : Casemapping → Message → List ℕ → Bool
is_unfit mapping message wanted = is_command (codes "432") message.command && is_same_by mapping (param message 1) wanted

-- ---- the NICK that asks for it

-- NICK is sent: the bot lacks the nick, it is free, and the last NICK was a minute ago or earlier
abbrev pub regains : Casemapping → Regaining → Message → List ℕ → ℕ → Bool
regains mapping regaining message wanted now =
    lacks mapping regaining.nick wanted && nat_le regaining.tells now && is_free mapping regaining message wanted

-- an answer ends the question
abbrev pub answered : Message → Regaining → Regaining
answered message regaining = if is_answer message then record regaining { asked = false } else regaining

-- a nick that the server does not take is asked for an hour later
abbrev pub put_off : Casemapping → Message → List ℕ → ℕ → Regaining → Regaining
put_off mapping message wanted now regaining =
    if is_unfit mapping message wanted then record regaining { asks = later_by UNFIT now } else regaining

-- after a NICK the next one comes a minute later at the soonest
abbrev pub told : Bool → ℕ → Regaining → Regaining
told false now regaining = regaining
told true now regaining = record regaining { tells = later_by REGAIN now }

abbrev pub heard : Casemapping → Regaining → Message → List ℕ → ℕ → Regaining
heard mapping regaining message wanted now =
    told (regains mapping regaining message wanted now) now
    (put_off mapping message wanted now (answered message (announced message regaining)))
