-- What a message says of the bot's channels (RFC 2812 sections 3.1.2, 3.1.3, 3.1.7, 3.2 and 5), one item at a time: a
-- list of channels, of modes or of names gives an item for each, in its order. A line that lacks a needed parameter
-- says nothing. What mode strings and lists of names say depends on what the server has announced, so each is one item
-- that is only read when it is taken in. So does whether a name that is joined is a channel.
use Rattle.std.specs.Option.{option_to_list}
use Rattle.std.specs.Prelude.{ℕ, ◌-◌, unwrap_or, Bool, true, false, ◌||◌, ◌&&◌, not, ◌==◌, List, [], ◌∷◌, ◌++◌, map, filter, drop, take}
use Rattle.std.specs.Prelude.{length, if◌then◌else◌, codes, find, Option, Some, None, slice_get}
use Rattle.std.specs.List.{list_any, filter_map, slice_split, position_or_len}
use Rattle.std.specs.Str.{bytes_eq}
use Rattle.ircline.specs.declared.message.Message.{Message}
use Rattle.rfccase.specs.Channels.{is_channel_name}
use Rattle.ircline.specs.Sources.{Source, Person, source_of}
use Rattle.chanstate.specs.declared.member.Member.{Member}
use Rattle.chanstate.specs.declared.member.Mark.{Mark}
use Rattle.chanstate.specs.declared.member.Mark.TheVariants.{Op, Voice, HalfOp}
use Rattle.chanstate.specs.declared.support.Support.{Support}
use Rattle.chanstate.specs.declared.detail.Detail.{Detail}
use Rattle.chanstate.specs.declared.detail.Detail.TheVariants.{Account, Address}
use Rattle.chanstate.specs.Announced.{is_in, is_sign, is_typed, takes_argument, cut}
use Rattle.chanstate.specs.declared.channel_command.ChannelCommand.{ChannelCommand}
use Rattle.chanstate.specs.declared.channel_command.ChannelCommand.TheVariants as verb

pub data Item : Type 0 where
  -- the server has welcomed the bot under this nick
  Welcomed : List ℕ → Item
  -- the server has announced these tokens
  Announced : List (List ℕ) → Item
  -- the person nick, user, host has joined the channel
  Joined : List ℕ → List ℕ → List ℕ → List ℕ → Item
  -- the nick has left the channel
  Left : List ℕ → List ℕ → Item
  -- the nick has left the network
  Departed : List ℕ → Item
  -- the first nick is now the second
  Renamed : List ℕ → List ℕ → Item
  -- on the channel, the modes of this string are set and cleared, with these arguments
  ModesSet : List ℕ → List ℕ → List (List ℕ) → Item
  -- on the channel, the mark of the nick is set or cleared
  Marked : List ℕ → Mark → Bool → List ℕ → Item
  -- the channel has this topic
  Titled : List ℕ → List ℕ → Item
  -- the channel has the members of this list of names
  NamesTold : List ℕ → List ℕ → Item
  -- the channel has this member, who has at least these marks
  Listed : List ℕ → Member → Item
  -- on the channel, the nick has this user and host
  Addressed : List ℕ → List ℕ → List ℕ → List ℕ → Item
  -- of the nick, wherever it is a member, this is known
  Told : List ℕ → Detail → Item
  -- a JOIN says of the nick that it is logged in under this account, if JOINs tell accounts
  ToldAtJoin : List ℕ → List ℕ → Item
  -- whether JOINs tell accounts from now on
  JoinsTell : Bool → Item

-- what follows from a parameter, if it is present
abbrev pub if_given : Option (List ℕ) → (List ℕ → List Item) → List Item
if_given None items = []
if_given (Some text) items = items text

-- the channels of a list separated by commas; a piece that is no channel's name gives none
abbrev pub channels_in : List ℕ → List (List ℕ)
channels_in text = filter is_channel_name (slice_split (λ b. b == 44) text)

-- whether a name is a channel on this server: it is a channel's name, and begins with a byte of CHANTYPES
abbrev pub is_channel_on : Support → List ℕ → Bool
is_channel_on s name = is_channel_name name && is_typed s name

-- the channels of a list that are channels on this server
abbrev pub channels_on : Support → List ℕ → List (List ℕ)
channels_on s text = filter (is_channel_on s) (slice_split (λ b. b == 44) text)

-- whether there is one
abbrev pub any_named : List (List ℕ) → Bool
any_named [] = false
any_named (name ∷ more) = true

-- signs stand before a nick in a list of names
abbrev pub signs_len : Support → List ℕ → ℕ
signs_len s word = position_or_len (λ b. not (is_sign s b)) word

-- whom a word of such a list names after the signs
pub record Entry : Type 0 where
  pub nick : List ℕ
  pub user : List ℕ
  pub host : List ℕ

-- A nick, or nick!user@host (the capability userhost-in-names). After the nick, what is no user@host says nothing.
abbrev pub addressed_as : List ℕ → Option (List ℕ × List ℕ) → Entry
addressed_as nick None = record { nick = nick; user = []; host = [] }
addressed_as nick (Some p) = record { nick = nick; user = p.0; host = p.1 }

abbrev pub entry_at : List ℕ → Option (List ℕ × List ℕ) → Entry
entry_at text None = record { nick = text; user = []; host = [] }
entry_at text (Some p) = addressed_as p.0 (cut 64 p.1)

abbrev pub entry_of : List ℕ → Entry
entry_of text = entry_at text (cut 33 text)

-- a word of such a list: @ is op, % is half-op, + is voice, and any other sign is none of these
abbrev pub shown_by : List ℕ → Entry → Member
shown_by signs entry = record {
  nick = entry.nick;
  user = entry.user;
  host = entry.host;
  account = [];
  op = list_any (λ s. s == 64) signs;
  voice = list_any (λ s. s == 43) signs;
  half_op = list_any (λ s. s == 37) signs;
}

abbrev pub named_by : List ℕ → Entry → Option Member
named_by signs entry = if length entry.nick == 0 then None else Some (shown_by signs entry)

abbrev pub named : Support → List ℕ → Option Member
named s word = named_by (take (signs_len s word) word) (entry_of (drop (signs_len s word) word))

abbrev pub names_in : Support → List ℕ → List Member
names_in s text = filter_map (named s) (slice_split (λ b. b == 32) text)

-- one mode of a mode string
pub record Single : Type 0 where
  pub on : Bool
  pub letter : ℕ
  pub argument : List ℕ

-- + and - are signs, and each holds until the next one
abbrev pub sign_after : Bool → ℕ → Bool
sign_after on b = if b == 43 then true else (if b == 45 then false else on)

abbrev pub is_letter : ℕ → Bool
is_letter b = not (b == 43 || b == 45)

-- the argument of a letter, or the empty text if it is missing
abbrev pub argument_of : Support → Bool → ℕ → List (List ℕ) → List ℕ
argument_of s on b arguments = if takes_argument s on b then unwrap_or (slice_get arguments 0) [] else []

abbrev pub arguments_after : Support → Bool → ℕ → List (List ℕ) → List (List ℕ)
arguments_after s on b arguments = if is_letter b && takes_argument s on b then drop 1 arguments else arguments

-- the single mode of a byte; a sign has none
abbrev pub single_at : Support → Bool → ℕ → List (List ℕ) → Option Single
single_at s on b arguments = if is_letter b then Some (record { on = on; letter = b; argument = argument_of s on b arguments }) else None

-- the single modes of a mode string; the sign is plus at first
abbrev pub singles : Support → Bool → List ℕ → List (List ℕ) → List Single
singles s on [] arguments = []
singles s on (b ∷ bs) arguments =
    option_to_list (single_at s on b arguments) ++ singles s (sign_after on b) bs (arguments_after s on b arguments)

-- o v h set or clear a mark, if they are modes that mark a member
abbrev pub mark_of : ℕ → Option Mark
mark_of b = if b == 111 then Some Op else (if b == 118 then Some Voice else (if b == 104 then Some HalfOp else None))

abbrev pub rank_of : Support → ℕ → Option Mark
rank_of s b = if is_in b s.ranks then mark_of b else None

abbrev pub marking : List ℕ → Bool → List ℕ → Option Mark → List Item
marking channel on nick None = []
marking channel on nick (Some mark) = Marked channel mark on nick ∷ []

abbrev pub markings : Support → List ℕ → List Single → List Item
markings s channel [] = []
markings s channel (one ∷ more) = marking channel one.on one.argument (rank_of s one.letter) ++ markings s channel more

-- the items that an item stands for, given what the server has announced
abbrev pub read_by : Support → Item → List Item
read_by s (ModesSet channel modes arguments) = markings s channel (singles s true modes arguments)
read_by s (NamesTold channel names) = map (Listed channel) (names_in s names)
read_by s (Joined nick user host channel) = if is_typed s channel then Joined nick user host channel ∷ [] else []
read_by s (ToldAtJoin nick account) = if s.joins_tell then Told nick (Account account) ∷ [] else []
read_by s item = item ∷ []

-- the command of a message, as far as channels and events are concerned
abbrev pub word_of : ChannelCommand → List ℕ
word_of verb.RplWelcome = codes "001"
word_of verb.RplISupport = codes "005"
word_of verb.Join = codes "JOIN"
word_of verb.Part = codes "PART"
word_of verb.Kick = codes "KICK"
word_of verb.Quit = codes "QUIT"
word_of verb.Nick = codes "NICK"
word_of verb.Mode = codes "MODE"
word_of verb.Topic = codes "TOPIC"
word_of verb.RplTopic = codes "332"
word_of verb.RplNoTopic = codes "331"
word_of verb.RplNamReply = codes "353"
word_of verb.RplWhoReply = codes "352"
word_of verb.RplWhoSpcRpl = codes "354"
word_of verb.Cap = codes "CAP"
word_of verb.Account = codes "ACCOUNT"
word_of verb.ChgHost = codes "CHGHOST"
word_of verb.Privmsg = codes "PRIVMSG"
word_of verb.Notice = codes "NOTICE"
word_of verb.Other = []

abbrev pub all_verbs : List ChannelCommand
all_verbs =
    verb.Privmsg ∷
    verb.Notice ∷
    verb.RplWelcome ∷
    verb.RplISupport ∷
    verb.Join ∷
    verb.Part ∷
    verb.Kick ∷
    verb.Quit ∷
    verb.Nick ∷
    verb.Mode ∷
    verb.Topic ∷
    verb.RplTopic ∷
    verb.RplNoTopic ∷
    verb.RplNamReply ∷
    verb.RplWhoReply ∷
    verb.RplWhoSpcRpl ∷
    verb.Cap ∷
    verb.Account ∷
    verb.ChgHost ∷
    []

abbrev pub verb_of : List ℕ → ChannelCommand
verb_of command = unwrap_or (find (λ verb. bytes_eq (word_of verb) command) all_verbs) verb.Other

-- 001: the first parameter is the bot's nick
abbrev pub rpl_welcome_items : List (List ℕ) → List Item
rpl_welcome_items ps = if_given (slice_get ps 0) (λ nick. Welcomed nick ∷ [])

-- 005: each parameter after the nick is a token
abbrev pub rpl_isupport_items : List (List ℕ) → List Item
rpl_isupport_items ps = Announced (drop 1 ps) ∷ []

-- the account that a parameter names; `none` stands for no account
abbrev pub account_but : List ℕ → List ℕ → List ℕ
account_but none text = if bytes_eq text none then [] else text

-- JOIN of a person; with the capability extended-join the second parameter is the account, and * is none
abbrev pub joined_as : List ℕ → List ℕ → List ℕ → List ℕ → Option (List ℕ) → List Item
joined_as nick user host list None = map (Joined nick user host) (channels_in list)
joined_as nick user host list (Some account) =
    map (Joined nick user host) (channels_in list) ++ ToldAtJoin nick (account_but (codes "*") account) ∷ []

abbrev pub join_items : Source → List (List ℕ) → List Item
join_items (Person nick user host) ps = if_given (slice_get ps 0) (λ list. joined_as nick user host list (slice_get ps 1))
join_items who ps = []

-- PART of a person
abbrev pub part_items : Source → List (List ℕ) → List Item
part_items (Person nick user host) ps = if_given (slice_get ps 0) (λ list. map (Left nick) (channels_in list))
part_items who ps = []

-- KICK, by anyone
abbrev pub kick_items : List (List ℕ) → List Item
kick_items ps = if_given (slice_get ps 0) (λ channel. if_given (slice_get ps 1) (λ target. Left target channel ∷ []))

-- QUIT and NICK of a person
abbrev pub quit_items : Source → List Item
quit_items (Person nick user host) = Departed nick ∷ []
quit_items who = []

abbrev pub nick_items : Source → List (List ℕ) → List Item
nick_items (Person nick user host) ps = if_given (slice_get ps 0) (λ new. Renamed nick new ∷ [])
nick_items who ps = []

-- MODE of a channel, by anyone
abbrev pub mode_items : List (List ℕ) → List Item
mode_items ps = if_given (slice_get ps 0) (λ channel. if_given (slice_get ps 1) (λ modes. ModesSet channel modes (drop 2 ps) ∷ []))

abbrev pub last_of : List (List ℕ) → Option (List ℕ)
last_of ps = slice_get ps (length ps - 1)

-- TOPIC: the channel is the first parameter; 332 and 331: the second. The last parameter is the topic; 331 says that
-- there is none.
abbrev pub topic_items : List (List ℕ) → List Item
topic_items ps = if_given (slice_get ps 0) (λ channel. if_given (slice_get ps 1) (λ text. if_given (last_of ps) (λ topic. Titled channel topic ∷ [])))

abbrev pub rpl_topic_items : List (List ℕ) → List Item
rpl_topic_items ps = if_given (slice_get ps 1) (λ channel. if_given (slice_get ps 2) (λ text. if_given (last_of ps) (λ topic. Titled channel topic ∷ [])))

abbrev pub rpl_no_topic_items : List (List ℕ) → List Item
rpl_no_topic_items ps = if_given (slice_get ps 1) (λ channel. Titled channel [] ∷ [])

-- 353: the third parameter is the channel, the fourth the names
abbrev pub rpl_nam_reply_items : List (List ℕ) → List Item
rpl_nam_reply_items ps = if_given (slice_get ps 2) (λ channel. if_given (slice_get ps 3) (λ names. NamesTold channel names ∷ []))

-- 352: the second, third, fourth and sixth are channel, user, host and nick
abbrev pub rpl_who_reply_items : List (List ℕ) → List Item
rpl_who_reply_items ps =
    if_given (slice_get ps 1)
    (λ channel. if_given (slice_get ps 2)
    (λ user. if_given (slice_get ps 3) (λ host. if_given (slice_get ps 5) (λ nick. Addressed channel nick user host ∷ []))))

-- 354, an answer to WHO #channel %tcuhna,152: after the bot's nick it has our token, the channel, user, host, nick and
-- account, and 0 is no account. Another token says nothing.
abbrev pub who_items : List ℕ → List ℕ → List ℕ → List ℕ → List ℕ → List Item
who_items channel user host nick account =
    Addressed channel nick user host ∷ Told nick (Account (account_but (codes "0") account)) ∷ []

abbrev pub rpl_whospcrpl_items : List (List ℕ) → List Item
rpl_whospcrpl_items ps =
    if_given (slice_get ps 1)
    (λ token. if bytes_eq token (codes "152")
    then if_given (slice_get ps 2)
    (λ channel. if_given (slice_get ps 3)
    (λ user. if_given (slice_get ps 4)
    (λ host. if_given (slice_get ps 5) (λ nick. if_given (slice_get ps 6) (λ account. who_items channel user host nick account)))))
    else [])

-- ACCOUNT of a person (the capability account-notify): the parameter is the account, and * is none
abbrev pub account_items : Source → List (List ℕ) → List Item
account_items (Person nick user host) ps = if_given (slice_get ps 0) (λ account. Told nick (Account (account_but (codes "*") account)) ∷ [])
account_items who ps = []

-- CHGHOST of a person (the capability chghost): the parameters are the new user and host
abbrev pub chghost_items : Source → List (List ℕ) → List Item
chghost_items (Person nick user host) ps =
    if_given (slice_get ps 0) (λ user. if_given (slice_get ps 1) (λ host. Told nick (Address user host) ∷ []))
chghost_items who ps = []

-- whether a word stands in a list of words separated by spaces
abbrev pub has_word : List ℕ → List ℕ → Bool
has_word word list = list_any (λ piece. bytes_eq piece word) (slice_split (λ b. b == 32) list)

-- what a list of capabilities says of extended-join: CAP ACK enables each of them, and disables those after a minus;
-- CAP DEL removes each of them
abbrev pub acknowledged : List ℕ → List Item
acknowledged list =
    if has_word (codes "extended-join") list then JoinsTell true ∷ []
    else (if has_word (codes "-extended-join") list then JoinsTell false ∷ [] else [])

abbrev pub removed : List ℕ → List Item
removed list = if has_word (codes "extended-join") list then JoinsTell false ∷ [] else []

-- CAP of a server: the second parameter is ACK or DEL, the third the list
abbrev pub capability_items : List (List ℕ) → List Item
capability_items ps =
    if_given (slice_get ps 1)
    (λ what. if_given (slice_get ps 2)
    (λ list. if bytes_eq what (codes "ACK") then acknowledged list else (if bytes_eq what (codes "DEL") then removed list else [])))

abbrev pub cap_items : Source → List (List ℕ) → List Item
cap_items (Person nick user host) ps = []
cap_items who ps = capability_items ps

abbrev pub items_by : ChannelCommand → Source → List (List ℕ) → List Item
items_by verb.RplWelcome who ps = rpl_welcome_items ps
items_by verb.RplISupport who ps = rpl_isupport_items ps
items_by verb.Join who ps = join_items who ps
items_by verb.Part who ps = part_items who ps
items_by verb.Kick who ps = kick_items ps
items_by verb.Quit who ps = quit_items who
items_by verb.Nick who ps = nick_items who ps
items_by verb.Mode who ps = mode_items ps
items_by verb.Topic who ps = topic_items ps
items_by verb.RplTopic who ps = rpl_topic_items ps
items_by verb.RplNoTopic who ps = rpl_no_topic_items ps
items_by verb.RplNamReply who ps = rpl_nam_reply_items ps
items_by verb.RplWhoReply who ps = rpl_who_reply_items ps
items_by verb.RplWhoSpcRpl who ps = rpl_whospcrpl_items ps
items_by verb.Cap who ps = cap_items who ps
items_by verb.Account who ps = account_items who ps
items_by verb.ChgHost who ps = chghost_items who ps
items_by verb.Privmsg who ps = []
items_by verb.Notice who ps = []
items_by verb.Other who ps = []

abbrev pub items_of : Message → List Item
items_of m = items_by (verb_of m.command) (source_of m.prefix) m.params
