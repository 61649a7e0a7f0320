-- A channel on which the bot is to be, and when the process asks to join it.
use Rattle.std.specs.Prelude.{ℕ, ◌+◌, ◌-◌, ◌^◌, ◌&&◌, not, min, nat_le, nat_lt, Bool, true, false, List, Option, None, Some, if◌then◌else◌}
use Rattle.std.specs.List.{list_any}
use Rattle.std.specs.Option.{option_map}
use Rattle.std.specs.Str.{bytes_eq}
use Rattle.rfccase.specs.declared.casemappings.Casemapping.{Casemapping}
use Rattle.rfccase.specs.Casemapping.{is_same_by}
use Rattle.net.specs.declared.redial.TheConstants.{FIRST_WAIT}
use Rattle.net.specs.Waits.{Waits, lost as lost_wait}
use Rattle.settings.specs.declared.settings.ChannelSetting.{ChannelSetting}
use Rattle.serverlink.specs.declared.seat.TheConstants.{ASK_AGAIN, INVITED, LONGEST_WAIT}
use Rattle.serverlink.specs.declared.vigil.TheConstants.{GOOD}

-- its name and its key; whether the bot is on it, and when it last joined; when the process asks to join, if a server has welcomed
-- the bot; the wait after the bot was taken off the channel, or after the server did not let it in
pub record Seated : Type 0 where
  pub channel : List ℕ
  pub key : Option (List ℕ)
  pub on : Bool
  pub since : ℕ
  pub asks : Option ℕ
  pub waits : Waits

abbrev pub begun : List ℕ → Option (List ℕ) → ℕ → Seated
begun channel key number = record {
  channel = channel;
  key = key;
  on = false;
  since = 0;
  asks = None;
  waits = record { number = number; most = LONGEST_WAIT; due = 0; wait = FIRST_WAIT };
}

-- a minute from now
abbrev pub later : ℕ → Option ℕ
later now = Some (min (now + ASK_AGAIN) (2 ^ 64 - 1))

-- the process asks at once when a server has welcomed the bot
abbrev pub welcomed : Seated → ℕ → Seated
welcomed seat now = record seat { asks = Some now }

abbrev pub joined : Seated → ℕ → Seated
joined seat now = record seat { on = true; since = now }

-- the server was lost: nothing is asked before the next one welcomes the bot
abbrev pub lost : Seated → Seated
lost seat = record seat { on = false; asks = None }

-- the process asks after this wait
abbrev pub waiting : Seated → Waits → Seated
waiting seat waits = record seat { on = false; asks = Some waits.due; waits = waits }

-- by a KICK, or by a PART in the bot's name; a bot that has stayed for long waits as after a good connection
abbrev pub taken_off : Seated → ℕ → Seated
taken_off seat now = waiting seat (lost_wait seat.waits now (nat_le GOOD (now - seat.since)))

-- a bot that is on the channel was let in
abbrev pub not_let_in : Seated → ℕ → Seated
not_let_in seat now = if seat.on then seat else waiting seat (lost_wait seat.waits now false)

abbrev pub is_past : Option ℕ → ℕ → Bool
is_past None now = false
is_past (Some second) now = nat_le second now

abbrev pub is_due : Seated → ℕ → Bool
is_due seat now = not seat.on && is_past seat.asks now

-- the process has asked; if the server does not answer, it asks again a minute later
abbrev pub retried : Seated → ℕ → Seated
retried seat now = record seat { asks = later now }

-- five seconds from now
abbrev pub soon : ℕ → ℕ
soon now = min (now + INVITED) (2 ^ 64 - 1)

abbrev pub is_after : Option ℕ → ℕ → Bool
is_after None second = false
is_after (Some asks) second = nat_lt second asks

-- an invitation has a bot that is not on the channel ask sooner
abbrev pub is_sooner : Seated → ℕ → Bool
is_sooner seat now = not seat.on && is_after seat.asks (soon now)

abbrev pub invited : Seated → ℕ → Seated
invited seat now = if is_sooner seat now then record seat { asks = Some (soon now) } else seat

-- whether two keys are the same, or there is neither
abbrev pub same_key : Option (List ℕ) → Option (List ℕ) → Bool
same_key None None = true
same_key None (Some new) = false
same_key (Some old) None = false
same_key (Some old) (Some new) = bytes_eq old new

-- another key: a bot that is not on the channel need not wait with it
abbrev pub rekeyed : Seated → Option (List ℕ) → ℕ → Seated
rekeyed seat key now = record seat { key = key; asks = option_map (λ second. now) seat.asks }

-- whether a channel is among these, by the casemapping of the server
abbrev pub is_named : Casemapping → List ChannelSetting → List ℕ → Bool
is_named mapping listed channel = list_any (λ other. is_same_by mapping other.name channel) listed
