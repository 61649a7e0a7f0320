-- What a message means for a bot's registration and its channels.
use Rattle.std.specs.Prelude.{ℕ, ◌==◌, ◌&&◌, ◌||◌, Bool, false, List, [], length, slice_get, slice_index, unwrap_or, if◌then◌else◌, codes, Option, None, Some}
use Rattle.rfccase.specs.declared.casemappings.Casemapping.{Casemapping}
use Rattle.rfccase.specs.Casemapping.{is_same_by}
use Rattle.rfccase.specs.Channels.{is_channel_name}
use Rattle.ircline.specs.declared.line.Line.{Line}
use Rattle.ircline.specs.declared.line.Line.TheVariants.{Message as a_message, Bad as a_bad_line}
use Rattle.ircline.specs.declared.message.Message.{Message}
use Rattle.ircline.specs.declared.numeric.Numeric.{Numeric}
use Rattle.ircline.specs.declared.numeric.Numeric.TheVariants.{Welcome, ErroneousNickname, NicknameInUse, NickCollision, UnavailableResource, Other}
use Rattle.ircline.specs.Numeric.{is_command, numeric_of}
use Rattle.ircline.specs.Sources.{Source, Nobody, Server, Person, source_of}
use Rattle.serverlink.specs.declared.cue.Cue.{Cue}
use Rattle.serverlink.specs.declared.cue.Cue.TheVariants.{Welcomed, Renamed, Joined, Parted, Kicked, Barred, Forwarded, NickRefused, Refused, Supports, Invited, Nothing}

-- the parameter at a place, empty if the message has fewer
abbrev pub param : Message → ℕ → List ℕ
param message place = unwrap_or (slice_get message.params place) []

-- the source is a person with this nick, by the casemapping of the server
abbrev pub is_from : Casemapping → Source → List ℕ → Bool
is_from mapping Nobody own = false
is_from mapping (Server name) own = false
is_from mapping (Person nick user host) own = is_same_by mapping nick own

abbrev pub is_by : Casemapping → Message → List ℕ → Bool
is_by mapping message own = is_from mapping (source_of message.prefix) own

abbrev pub is_to : Casemapping → Message → List ℕ → Bool
is_to mapping message own = is_same_by mapping (param message 1) own

-- the first parameter is this nick
abbrev pub is_for : Casemapping → Message → List ℕ → Bool
is_for mapping message own = is_same_by mapping (param message 0) own

-- no such channel, one too many, full, for the invited alone, banned, with a key, no name of a channel (476, 479), for the
-- registered alone, joined too often, for TLS alone, for operators of the server alone
abbrev pub is_barring : List ℕ → Bool
is_barring command =
    is_command (codes "403") command || is_command (codes "405") command || is_command (codes "471") command
    || is_command (codes "473") command || is_command (codes "474") command || is_command (codes "475") command
    || is_command (codes "476") command || is_command (codes "477") command || is_command (codes "479") command
    || is_command (codes "480") command || is_command (codes "489") command || is_command (codes "520") command

-- a number from 400 to 599
abbrev pub is_numeric_fault : List ℕ → Bool
is_numeric_fault command = length command == 3 && (slice_index command 0 == 52 || slice_index command 0 == 53)

abbrev pub other_cue : List ℕ → Cue
other_cue command =
    if is_command (codes "005") command then Supports
    else if is_command (codes "470") command then Forwarded
    else if is_barring command then Barred
    else if is_numeric_fault command then Refused
    else Nothing

-- what cannot be had for a while: a channel, or a nick, since no nick is the name of a channel
abbrev pub unavailable : List ℕ → Cue
unavailable name = if is_channel_name name then Barred else NickRefused

-- a bot whose nick somebody else has asks for another one by itself (433)
abbrev pub cue_by : Numeric → Message → Cue
cue_by Welcome message = Welcomed
cue_by ErroneousNickname message = NickRefused
cue_by NicknameInUse message = Refused
cue_by NickCollision message = NickRefused
cue_by UnavailableResource message = unavailable (param message 1)
cue_by Other message = other_cue message.command

abbrev pub numeric_cue : Message → Cue
numeric_cue message = cue_by (numeric_of message.command) message

-- a welcome and a change of the bot's own nick give it the nick that is the first parameter
abbrev pub nick_by : Cue → Message → Option (List ℕ)
nick_by Welcomed message = Some (param message 0)
nick_by Renamed message = Some (param message 0)
nick_by Joined message = None
nick_by Parted message = None
nick_by Kicked message = None
nick_by Barred message = None
nick_by Forwarded message = None
nick_by NickRefused message = None
nick_by Refused message = None
nick_by Supports message = None
nick_by Invited message = None
nick_by Nothing message = None

abbrev pub cue_of : Casemapping → Message → List ℕ → Cue
cue_of mapping message own =
    if is_command (codes "JOIN") message.command && is_by mapping message own then Joined
    else if is_command (codes "PART") message.command && is_by mapping message own then Parted
    else if is_command (codes "NICK") message.command && is_by mapping message own then Renamed
    else if is_command (codes "KICK") message.command && is_to mapping message own then Kicked
    else if is_command (codes "INVITE") message.command && is_for mapping message own then Invited
    else if is_command (codes "ERROR") message.command then Refused
    else numeric_cue message

-- the nick that the bot has after a line, if the line gives it one
abbrev pub new_nick : Casemapping → Line → List ℕ → Option (List ℕ)
new_nick mapping (a_message message) own = nick_by (cue_of mapping message own) message
new_nick mapping (a_bad_line fault) own = None
