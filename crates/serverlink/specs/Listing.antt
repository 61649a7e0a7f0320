-- What the channels of a configuration do to those on which a bot is to be.
use Rattle.std.specs.Prelude.{ℕ, ◌&&◌, not, Bool, false, List, [], ◌∷◌, ◌++◌, map, Option, None, Some, if◌then◌else◌}
use Rattle.std.specs.List.{list_any}
use Rattle.rfccase.specs.declared.casemappings.Casemapping.{Casemapping}
use Rattle.rfccase.specs.Casemapping.{is_same_by}
use Rattle.settings.specs.declared.settings.ChannelSetting.{ChannelSetting}
use Rattle.serverlink.specs.declared.session.Session.{Session}
use Rattle.serverlink.specs.Seats.{Seated, begun, rekeyed, same_key, welcomed}

-- the seat of a channel as the configuration has it, before a server has welcomed the bot
abbrev pub begun_as : ℕ → ChannelSetting → Seated
begun_as number channel = begun channel.name channel.key number

-- whether the bot is to be on a channel of this name
abbrev pub has_seat : Casemapping → List ℕ → List Seated → Bool
has_seat mapping name seats = list_any (λ seat. is_same_by mapping seat.channel name) seats

-- a channel of this name gets this key, if it has another one
abbrev pub rekeyed_at : Casemapping → List ℕ → Option (List ℕ) → ℕ → Seated → Seated
rekeyed_at mapping name key now seat = if is_same_by mapping seat.channel name && not (same_key seat.key key) then rekeyed seat key now else seat

-- whether a server has welcomed the bot
abbrev pub is_welcomed : Option Session → Bool
is_welcomed None = false
is_welcomed (Some session) = session.is_welcomed

-- a new seat at this second: the process asks at once if a server has welcomed the bot
abbrev pub seated : Bool → ℕ → Seated → Seated
seated is_welcomed now seat = if is_welcomed then welcomed seat now else seat

-- a channel that is listed: it gets its key if the bot is to be there already, and else it is added after the others
abbrev pub with_listed : Casemapping → Bool → ℕ → ℕ → ChannelSetting → List Seated → List Seated
with_listed mapping is_welcomed number now channel seats =
    if has_seat mapping channel.name seats then map (rekeyed_at mapping channel.name channel.key now) seats
    else seats ++ seated is_welcomed now (begun_as number channel) ∷ []

-- all channels that are listed, one after another
abbrev pub with_all_listed : Casemapping → Bool → ℕ → ℕ → List ChannelSetting → List Seated → List Seated
with_all_listed mapping is_welcomed number now [] seats = seats
with_all_listed mapping is_welcomed number now (channel ∷ listed) seats =
    with_all_listed mapping is_welcomed number now listed (with_listed mapping is_welcomed number now channel seats)
