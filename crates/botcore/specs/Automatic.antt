-- The lines that a bot queues by itself: once it has connected, and when a server's message needs an answer.
--
-- The rule gives them by the channels after the message. Here they are given by the channels before it; for a MODE,
-- the channels after it are computed from these. The other lines read nothing that their message changes. The JOIN of
-- another person changes neither which channels the bot is on, nor how it spells them, nor where it is op, nor its
-- nick, nor the casemapping. The lines of other messages read nothing of the channels.
--
-- Nicks, channels, and the masks of bans are compared by the casemapping that the server has announced.
use Rattle.std.specs.Prelude.{ℕ, ◌==◌, nat_lt, Bool, true, false, not, ◌&&◌, List, [], ◌∷◌, length, map, filter, take, slice_get}
use Rattle.std.specs.Prelude.{if◌then◌else◌, codes, drop, Option, Some, None, unwrap_or}
use Rattle.std.specs.Char.{is_ascii_alphanumeric}
use Rattle.std.specs.List.{concat, filter_map, flat_map}
use Rattle.std.specs.Option.{option_to_list}
use Rattle.rfccase.specs.declared.casemappings.Casemapping.{Casemapping}
use Rattle.rfccase.specs.Casemapping.{is_same_by}
use Rattle.ircline.specs.declared.message.Message.{Message}
use Rattle.ircline.specs.declared.numeric.Numeric.{Numeric}
use Rattle.ircline.specs.declared.numeric.Numeric.TheVariants.{Welcome, ErroneousNickname, NicknameInUse, NickCollision, UnavailableResource, Other}
use Rattle.ircline.specs.Numeric.{is_command, numeric_of}
use Rattle.ircline.specs.Printing.{canonical}
use Rattle.ircline.specs.Sources.{Source, Nobody, Server as a_server, Person, source_of}
use Rattle.outqueue.specs.declared.queue.Queue.{Queue}
use Rattle.outqueue.specs.declared.queue.Queue.TheVariants.{Mode, Server}
use Rattle.userfile.specs.declared.ban.Ban.{Ban}
use Rattle.userfile.specs.Persons.{ban_for, sticky_ban}
use Rattle.chanstate.specs.declared.state.ChanState.{ChanState}
use Rattle.chanstate.specs.Comings.{hostmask, spelled}
use Rattle.chanstate.specs.Given.{address_of, text_at}
use Rattle.chanstate.specs.Items.{Single, channels_in, singles}
use Rattle.chanstate.specs.Steps.{after}
use Rattle.chanstate.specs.Views.{mapping_of, member_in, is_op}
use Rattle.procs.specs.declared.action.PutWish.{PutWish}
use Rattle.botcore.specs.declared.config.Config.{Config}
use Rattle.botcore.specs.declared.manner.Manner.{Manner}
use Rattle.botcore.specs.declared.manner.Manner.TheVariants.{InTurn, Prompt}
use Rattle.botcore.specs.Putting.{usual}
use Rattle.botcore.specs.declared.watched_command.WatchedCommand.{WatchedCommand}
use Rattle.botcore.specs.declared.watched_command.WatchedCommand.TheVariants as cue
use Rattle.botcore.specs.declared.limits.TheConstants.{MAX_NICK, MAX_USER}

-- a line of these pieces, for this queue
abbrev pub wish : Queue → List (List ℕ) → PutWish
wish queue pieces = record { queue = queue; line = concat pieces }

-- what follows from a parameter, if there is one
abbrev pub if_there : Option (List ℕ) → (List ℕ → List PutWish) → List PutWish
if_there None wishes = []
if_there (Some text) wishes = wishes text

-- ---- connect

-- these bytes, or `bot` if there are none
abbrev pub or_bot : List ℕ → List ℕ
or_bot [] = codes "bot"
or_bot (byte ∷ bytes) = byte ∷ bytes

-- the first letters and digits of a nick: servers refuse a user name with other bytes
abbrev pub user_of : List ℕ → List ℕ
user_of nick = or_bot (take MAX_USER (filter is_ascii_alphanumeric nick))

-- a bot that doesn't send at once has its nick as its user name
abbrev pub user_name : Config → List ℕ
user_name config = if config.sends_at_once then user_of config.nick else config.nick

-- it registers under the nick of its configuration (RFC 2812 sections 3.1.2 and 3.1.3)
abbrev pub greeting : Config → List PutWish
greeting config =
    wish Mode (codes "NICK " ∷ config.nick ∷ []) ∷
    wish Mode (codes "USER " ∷ user_name config ∷ codes " 0 * :" ∷ config.nick ∷ []) ∷
    []

-- ---- the server welcomes the bot, needs another nick, or checks that the bot is still connected

-- it joins a channel of its configuration
abbrev pub join_wish : List ℕ → PutWish
join_wish channel = wish Server (codes "JOIN " ∷ channel ∷ [])

-- a nick that is in use gets one byte more, while it is short enough
abbrev pub longer_nick : List ℕ → List PutWish
longer_nick nick = if nat_lt (length nick) MAX_NICK then wish Mode (codes "NICK " ∷ nick ∷ codes "_" ∷ []) ∷ [] else []

-- only a bot that isn't welcomed yet lacks a nick
abbrev pub other_nick : Bool → List (List ℕ) → List PutWish
other_nick true params = []
other_nick false params = if_there (slice_get params 1) longer_nick

-- the answer to a PING has its first parameter; `manner_of` says what it waits for
abbrev pub pong : List ℕ → Message
pong text = record { prefix = []; command = codes "PONG"; params = text ∷ []; rest = [] }

abbrev pub pong_wish : List ℕ → PutWish
pong_wish text = record { queue = Mode; line = canonical (pong text) }

-- ---- a person joins

-- a listed channel on which the bot is op, as the bot spells it
abbrev pub guarded_as : ChanState → List ℕ → Option (List ℕ)
guarded_as s name = if is_op (member_in name s.nick s) then spelled false s name else None

-- those of a list with commas between, in its order
abbrev pub guarded : ChanState → List ℕ → List (List ℕ)
guarded s list = filter_map (guarded_as s) (channels_in list)

abbrev pub guarded_if : ChanState → Option (List ℕ) → List (List ℕ)
guarded_if s None = []
guarded_if s (Some list) = guarded s list

-- the channels on which it checks a person who has joined, if that is another person
abbrev pub watched : Source → List (List ℕ) → ChanState → List (List ℕ)
watched Nobody params s = []
watched (a_server name) params s = []
watched (Person nick user host) params s = if is_same_by (mapping_of s) nick s.nick then [] else guarded_if s (slice_get params 0)

-- the reason that a kick gives
abbrev pub reason_of : Ban → List ℕ
reason_of ban = if length ban.comment == 0 then codes "banned" else ban.comment

-- a ban is set on a channel, with its mask as the userfile spells it
abbrev pub ban_wish : List ℕ → Ban → PutWish
ban_wish channel ban = wish Mode (codes "MODE " ∷ channel ∷ codes " +b " ∷ ban.mask ∷ [])

-- a ban that excludes the person from the channel is set there, and the person is kicked
abbrev pub ban_wishes : List ℕ → List ℕ → Option Ban → List PutWish
ban_wishes nick channel None = []
ban_wishes nick channel (Some ban) =
    ban_wish channel ban ∷
    wish Mode (codes "KICK " ∷ channel ∷ codes " " ∷ nick ∷ codes " :" ∷ reason_of ban ∷ []) ∷
    []

-- what is done about a person on a channel, by the server's casemapping: the first ban that has not ended at this
-- second decides
abbrev pub kept_off : Casemapping → List Ban → ℕ → List ℕ → List ℕ → List ℕ → List PutWish
kept_off mapping bans now nick who channel = ban_wishes nick channel (ban_for mapping bans channel who now)

abbrev pub barred : Casemapping → List Ban → ℕ → Source → List ℕ → List PutWish
barred mapping bans now Nobody channel = []
barred mapping bans now (a_server name) channel = []
barred mapping bans now (Person nick user host) channel =
    kept_off mapping bans now nick (hostmask nick (address_of user host)) channel

-- ---- a ban is removed from a channel

-- whether the bot itself sets modes; a server, or a message without a source, is somebody else
abbrev pub is_own : Source → ChanState → Bool
is_own Nobody s = false
is_own (a_server name) s = false
is_own (Person nick user host) s = is_same_by (mapping_of s) nick s.nick

-- whether a single mode removes a ban: -b
abbrev pub is_unban : Single → Bool
is_unban one = not one.on && (one.letter == 98)

abbrev pub set_if : List ℕ → Option Ban → List PutWish
set_if channel None = []
set_if channel (Some ban) = ban_wish channel ban ∷ []

-- the line for a single mode on a channel: the first sticky ban of a mask that is removed is set again, both by the
-- server's casemapping
abbrev pub set_again : Casemapping → List Ban → ℕ → List ℕ → Single → List PutWish
set_again mapping bans now channel one =
    if is_unban one then set_if channel (sticky_ban mapping bans channel one.argument now) else []

-- the single modes of a MODE
abbrev pub modes_in : List (List ℕ) → ChanState → List Single
modes_in params s = singles s.support true (text_at params 1) (drop 2 params)

-- the lines of a MODE that somebody else sets, in the order of its modes, by the channels after it
abbrev pub mode_wishes : List Ban → ℕ → Source → List (List ℕ) → ChanState → List PutWish
mode_wishes bans now who params s =
    if is_own who s then []
    else flat_map (λ channel. flat_map (set_again (mapping_of s) bans now channel) (modes_in params s))
    (option_to_list (guarded_as s (text_at params 0)))

-- ---- any message

-- a bot that leaves bans to its procs queues no lines for them by itself
unfoldable pub unless_left : Bool → List PutWish → List PutWish
unless_left true wishes = []
unless_left false wishes = wishes

-- which message makes the bot queue lines, by the command
abbrev pub numeric_cue : Numeric → WatchedCommand
numeric_cue Welcome = cue.RplWelcome
numeric_cue ErroneousNickname = cue.Other
numeric_cue NicknameInUse = cue.ErrNicknameInUse
numeric_cue NickCollision = cue.Other
numeric_cue UnavailableResource = cue.Other
numeric_cue Other = cue.Other

abbrev pub cue_of : List ℕ → WatchedCommand
cue_of command =
    if is_command (codes "PING") command then cue.Ping
    else (if is_command (codes "JOIN") command then cue.Join
    else (if is_command (codes "MODE") command then cue.Mode
    else numeric_cue (numeric_of command)))

-- the server has welcomed the bot
abbrev pub welcomes : Numeric → Bool
welcomes Welcome = true
welcomes ErroneousNickname = false
welcomes NicknameInUse = false
welcomes NickCollision = false
welcomes UnavailableResource = false
welcomes Other = false

abbrev pub is_welcome : Message → Bool
is_welcome message = welcomes (numeric_of message.command) && not (length message.params == 0)

-- the channels of a message on which it checks a person who has joined
abbrev pub watched_by : WatchedCommand → Message → ChanState → List (List ℕ)
watched_by cue.Ping message s = []
watched_by cue.Join message s = watched (source_of message.prefix) message.params s
watched_by cue.Mode message s = []
watched_by cue.RplWelcome message s = []
watched_by cue.ErrNicknameInUse message s = []
watched_by cue.Other message s = []

abbrev pub watched_in : Message → ChanState → List (List ℕ)
watched_in message s = watched_by (cue_of message.command) message s

-- the lines of a message, for a bot with this configuration, in these channels before it, with these bans, at the last
-- second of its clock (0 before the first reading), and welcomed or not
abbrev pub lines_by : WatchedCommand → Config → ChanState → List Ban → Option ℕ → Bool → Message → List PutWish
lines_by cue.Ping config s bans last welcomed message =
    if_there (slice_get message.params 0) (λ text. pong_wish text ∷ [])
lines_by cue.Join config s bans last welcomed message =
    unless_left config.leaves_bans
    (flat_map (barred (mapping_of s) bans (unwrap_or last 0) (source_of message.prefix))
    (watched (source_of message.prefix) message.params s))
lines_by cue.Mode config s bans last welcomed message =
    unless_left config.leaves_bans
    (mode_wishes bans (unwrap_or last 0) (source_of message.prefix) message.params (after message s))
lines_by cue.RplWelcome config s bans last welcomed message =
    if_there (slice_get message.params 0) (λ nick. map join_wish config.channels)
lines_by cue.ErrNicknameInUse config s bans last welcomed message = other_nick welcomed message.params
lines_by cue.Other config s bans last welcomed message = []

abbrev pub automatic_lines : Config → ChanState → List Ban → Option ℕ → Bool → Message → List PutWish
automatic_lines config s bans last welcomed message =
    lines_by (cue_of message.command) config s bans last welcomed message

-- How a bot queues its lines for a command: each in its own queue, and once if it sends at once. But a bot that sends at
-- once puts its answer to a PING before all queues, so that a server that waits for the answer doesn't drop the bot for
-- the lines that wait there.
abbrev pub manner_by : WatchedCommand → Bool → Manner
manner_by cue.Ping true = Prompt
manner_by cue.Ping false = InTurn
manner_by cue.Join at_once = usual at_once
manner_by cue.Mode at_once = usual at_once
manner_by cue.RplWelcome at_once = usual at_once
manner_by cue.ErrNicknameInUse at_once = usual at_once
manner_by cue.Other at_once = usual at_once

abbrev pub manner_of : Config → Message → Manner
manner_of config message = manner_by (cue_of message.command) config.sends_at_once
