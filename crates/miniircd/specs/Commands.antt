-- What each command of a client does to the clients and the channels (RFC 2812 section 3).
use Rattle.std.specs.Prelude.{ℕ, Bool, true, false, not, ◌==◌, ◌&&◌, ◌||◌, List, [], ◌∷◌, Option, Some, None, map, take, drop, length, nat_lt, nat_le, nat_eq, codes, slice_get, if◌then◌else◌}
use Rattle.std.specs.List.{list_any, list_all, slice_split}
use Rattle.std.specs.Cmp.Lexicographic.{pointwise}
use Rattle.ircline.specs.Classes.{filled}
use Rattle.ircline.specs.declared.message.Message.{Message}
use Rattle.miniircd.specs.declared.client_identity.ClientIdentity.{ClientIdentity}
use Rattle.miniircd.specs.declared.member.ServerMember.{ServerMember}
use Rattle.miniircd.specs.declared.member.ServerChannel.{ServerChannel}
use Rattle.miniircd.specs.declared.client_command.ClientCommand.{ClientCommand}
use Rattle.miniircd.specs.declared.client_command.ClientCommand.TheVariants as command
use Rattle.miniircd.specs.declared.client_command.Inquiry.{Inquiry}
use Rattle.miniircd.specs.declared.client_command.Inquiry.TheVariants as inquiry
use Rattle.miniircd.specs.declared.server_change.ServerChange.{ServerChange}
use Rattle.miniircd.specs.declared.server_change.ServerChange.TheVariants as change
use Rattle.miniircd.specs.declared.standing.Standing.{Standing}
use Rattle.miniircd.specs.declared.standing.Standing.TheVariants as standing
use Rattle.miniircd.specs.People.{is_registered, holder, word_at}
use Rattle.miniircd.specs.Rooms.{room, member_of, is_on_some, joined_each, rooms_after, is_full, Leave, Title, Mark, Ban}
use Rattle.miniircd.specs.Lines.{source_of}
use Rattle.miniircd.specs.declared.modes.Single.{Single}
use Rattle.miniircd.specs.Modes.{singles}

-- ---- commands

abbrev pub is_command : List ℕ → List ℕ → Bool
is_command word name = pointwise nat_eq word name

-- a command that changes nothing on this server
abbrev pub inquiry_of : List ℕ → ClientCommand
inquiry_of c =
    if is_command c (codes "INVITE") then command.Ask inquiry.Invite
    else (if is_command c (codes "USERHOST") then command.Ask inquiry.Userhost
    else (if is_command c (codes "CAP") then command.Ask inquiry.Cap
    else (if is_command c (codes "ISON") then command.Ask inquiry.Ison
    else (if is_command c (codes "LIST") then command.Ask inquiry.List
    else (if is_command c (codes "PONG") then command.Ask inquiry.Pong
    else (if is_command c (codes "WHOIS") then command.Ask inquiry.Whois
    else command.Unknown))))))

abbrev pub command_of : List ℕ → ClientCommand
command_of c =
    if is_command c (codes "PRIVMSG") then command.Privmsg
    else (if is_command c (codes "NOTICE") then command.Notice
    else (if is_command c (codes "NICK") then command.Nick
    else (if is_command c (codes "USER") then command.User
    else (if is_command c (codes "JOIN") then command.Join
    else (if is_command c (codes "PART") then command.Part
    else (if is_command c (codes "TOPIC") then command.Topic
    else (if is_command c (codes "KICK") then command.Kick
    else (if is_command c (codes "MODE") then command.Mode
    else (if is_command c (codes "NAMES") then command.Names
    else (if is_command c (codes "WHO") then command.Who
    else (if is_command c (codes "PING") then command.Ping
    else (if is_command c (codes "QUIT") then command.Quit
    else inquiry_of c))))))))))))

-- how many parameters a command needs
abbrev pub needed_of : Inquiry → ℕ
needed_of inquiry.Cap = 1
needed_of inquiry.Invite = 2
needed_of inquiry.Ison = 1
needed_of inquiry.List = 0
needed_of inquiry.Pong = 0
needed_of inquiry.Userhost = 1
needed_of inquiry.Whois = 0

abbrev pub needed : ClientCommand → ℕ
needed command.Nick = 1
needed command.User = 4
needed command.Join = 1
needed command.Part = 1
needed command.Topic = 1
needed command.Kick = 2
needed command.Mode = 1
needed command.Privmsg = 2
needed command.Notice = 2
needed command.Names = 1
needed command.Who = 1
needed command.Ping = 1
needed command.Quit = 0
needed (command.Ask asked) = needed_of asked
needed command.Unknown = 0

-- whether a client may send it before it is registered
abbrev pub is_open_to_all : Inquiry → Bool
is_open_to_all inquiry.Cap = true
is_open_to_all inquiry.Pong = true
is_open_to_all inquiry.Invite = false
is_open_to_all inquiry.Ison = false
is_open_to_all inquiry.List = false
is_open_to_all inquiry.Userhost = false
is_open_to_all inquiry.Whois = false

abbrev pub is_open : ClientCommand → Bool
is_open command.Nick = true
is_open command.User = true
is_open command.Ping = true
is_open command.Quit = true
is_open (command.Ask asked) = is_open_to_all asked
is_open command.Join = false
is_open command.Part = false
is_open command.Topic = false
is_open command.Kick = false
is_open command.Mode = false
is_open command.Privmsg = false
is_open command.Notice = false
is_open command.Names = false
is_open command.Who = false
is_open command.Unknown = false

-- ---- NICK and USER (sections 3.1.2 and 3.1.3)

-- another client, if there is one
abbrev pub is_other : ℕ → Option ℕ → Bool
is_other client None = false
is_other client (Some holder) = not (holder == client)

-- a byte above a space, and none of ! @ , * ? : # & + % ~ .
abbrev pub is_nick_byte : ℕ → Bool
is_nick_byte b = nat_lt 32 b && not (list_any (λ x. x == b) (codes "!@,*?:#&+%~."))

abbrev pub is_nick : List ℕ → Bool
is_nick text = filled text && (nat_le (length text) 30 && list_all is_nick_byte text)

abbrev pub nick_change : ℕ → ClientIdentity → List (Option ClientIdentity) → List ℕ → ServerChange
nick_change client p clients new =
    if is_other client (holder new clients) then change.Same
    else (if is_nick new then change.Person (record p { nick = new }) else change.Same)

-- ! and @ can't stand in a user name
abbrev pub user_byte : ℕ → ℕ
user_byte b = if b == 33 || b == 64 then 95 else b

abbrev pub user_change : ClientIdentity → List ℕ → ServerChange
user_change p name = if filled p.user then change.Same else change.Person (record p { user = map user_byte (take 30 name) })

-- ---- channels (section 3.2)

-- a client's standing with a channel
abbrev pub standing_of : Option ServerMember → Standing
standing_of None = standing.Outside
standing_of (Some member) = if member.op then standing.Op else standing.Plain

abbrev pub standing_in : ℕ → Option ServerChannel → Standing
standing_in client None = standing.Unknown
standing_in client (Some channel) = standing_of (member_of client channel.members)

abbrev pub part_change : Standing → ℕ → List ℕ → List ServerChannel → ServerChange
part_change standing.Unknown client name channels = change.Same
part_change standing.Outside client name channels = change.Same
part_change standing.Plain client name channels = change.Channels (rooms_after (Some name) (Leave client) channels)
part_change standing.Op client name channels = change.Channels (rooms_after (Some name) (Leave client) channels)

abbrev pub topic_change : Standing → List ℕ → Option (List ℕ) → List ServerChannel → ServerChange
topic_change standing.Unknown name text channels = change.Same
topic_change standing.Outside name text channels = change.Same
topic_change standing.Plain name None channels = change.Same
topic_change standing.Plain name (Some text) channels = change.Channels (rooms_after (Some name) (Title text) channels)
topic_change standing.Op name None channels = change.Same
topic_change standing.Op name (Some text) channels = change.Channels (rooms_after (Some name) (Title text) channels)

-- the member of a channel that holds a nick
abbrev pub on_room : Option ℕ → Option ServerChannel → Option ℕ
on_room None channel = None
on_room (Some client) channel = if is_on_some client channel then Some client else None

abbrev pub target_on : List (Option ClientIdentity) → List ServerChannel → List ℕ → List ℕ → Option ℕ
target_on clients channels name nick = on_room (holder nick clients) (room name channels)

abbrev pub kicked : Option ℕ → List ℕ → List ServerChannel → ServerChange
kicked None name channels = change.Same
kicked (Some client) name channels = change.Channels (rooms_after (Some name) (Leave client) channels)

abbrev pub kick_change : Standing → List (Option ClientIdentity) → List ℕ → List ℕ → List ServerChannel → ServerChange
kick_change standing.Unknown clients name nick channels = change.Same
kick_change standing.Outside clients name nick channels = change.Same
kick_change standing.Plain clients name nick channels = change.Same
kick_change standing.Op clients name nick channels = kicked (target_on clients channels name nick) name channels

-- ---- MODE: o and v with a member's nick set and clear marks, b with a text sets and clears bans, one after another

abbrev pub is_mark : ℕ → Bool
is_mark letter = letter == 111 || letter == 118

abbrev pub marked_on : Option ℕ → List ℕ → Single → List ServerChannel → List ServerChannel
marked_on None name one channels = channels
marked_on (Some client) name one channels = rooms_after (Some name) (Mark client (one.letter == 118) one.on) channels

-- b with a text
abbrev pub is_ban_of : Single → Bool
is_ban_of one = one.letter == 98 && filled one.argument

-- whether a mode would change something, provided that there is such a member
abbrev pub counts : Single → Bool
counts one = (is_mark one.letter || one.letter == 98) && filled one.argument

-- a ban is set or cleared; a ban for which there is no room is refused
abbrev pub banned_on : List ℕ → Single → List ServerChannel → List ServerChannel
banned_on name one channels =
    if one.on && is_full one.argument (room name channels) then channels
    else rooms_after (Some name) (Ban one.argument one.on) channels

abbrev pub moded : List (Option ClientIdentity) → List ℕ → Single → List ServerChannel → List ServerChannel
moded clients name one channels =
    if is_mark one.letter then marked_on (target_on clients channels name one.argument) name one channels
    else (if is_ban_of one then banned_on name one channels else channels)

abbrev pub moded_each : List (Option ClientIdentity) → List ℕ → List Single → List ServerChannel → List ServerChannel
moded_each clients name [] channels = channels
moded_each clients name (one ∷ more) channels = moded_each clients name more (moded clients name one channels)

abbrev pub mode_change : Standing → List (Option ClientIdentity) → List ℕ → List ℕ → List (List ℕ) → List ServerChannel → ServerChange
mode_change standing.Unknown clients name modes arguments channels = change.Same
mode_change standing.Outside clients name modes arguments channels = change.Same
mode_change standing.Plain clients name modes arguments channels = change.Same
mode_change standing.Op clients name modes arguments channels =
    if list_any counts (singles true modes arguments)
    then change.Channels (moded_each clients name (singles true modes arguments) channels)
    else change.Same

-- ---- a whole message other than QUIT

abbrev pub is_quit : ClientCommand → Bool
is_quit command.Quit = true
is_quit command.Nick = false
is_quit command.User = false
is_quit command.Join = false
is_quit command.Part = false
is_quit command.Topic = false
is_quit command.Kick = false
is_quit command.Mode = false
is_quit command.Privmsg = false
is_quit command.Notice = false
is_quit command.Names = false
is_quit command.Who = false
is_quit command.Ping = false
is_quit (command.Ask asked) = false
is_quit command.Unknown = false

abbrev pub change_by : ClientCommand → ℕ → ClientIdentity → List (Option ClientIdentity) → List ServerChannel → List (List ℕ) → ServerChange
change_by command.Nick client p clients channels ps = nick_change client p clients (word_at 0 ps)
change_by command.User client p clients channels ps = user_change p (word_at 0 ps)
change_by command.Join client p clients channels ps =
    change.Channels (joined_each client (source_of p) (slice_split (λ b. b == 44) (word_at 0 ps)) channels)
change_by command.Part client p clients channels ps =
    part_change (standing_in client (room (word_at 0 ps) channels)) client (word_at 0 ps) channels
change_by command.Topic client p clients channels ps =
    topic_change (standing_in client (room (word_at 0 ps) channels)) (word_at 0 ps) (slice_get ps 1) channels
change_by command.Kick client p clients channels ps =
    kick_change (standing_in client (room (word_at 0 ps) channels)) clients (word_at 0 ps) (word_at 1 ps) channels
change_by command.Mode client p clients channels ps =
    mode_change (standing_in client (room (word_at 0 ps) channels)) clients (word_at 0 ps) (word_at 1 ps) (drop 2 ps) channels
change_by command.Quit client p clients channels ps = change.Same
change_by command.Privmsg client p clients channels ps = change.Same
change_by command.Notice client p clients channels ps = change.Same
change_by command.Names client p clients channels ps = change.Same
change_by command.Who client p clients channels ps = change.Same
change_by command.Ping client p clients channels ps = change.Same
change_by (command.Ask asked) client p clients channels ps = change.Same
change_by command.Unknown client p clients channels ps = change.Same

-- a command counts if the client may send it and gives the parameters that it needs
abbrev pub is_admitted : ClientIdentity → ClientCommand → ℕ → Bool
is_admitted p c count = (is_registered p || is_open c) && nat_le (needed c) count

abbrev pub change_of : ℕ → ClientIdentity → List (Option ClientIdentity) → List ServerChannel → Message → ServerChange
change_of client p clients channels m =
    if is_admitted p (command_of m.command) (length m.params)
    then change_by (command_of m.command) client p clients channels m.params
    else change.Same
