-- Which messages may allocate: those that may add a text or a member to what is known. No other message allocates.
use Rattle.std.specs.Prelude.{ℕ, Bool, true, false, not, ◌||◌, ◌&&◌, List, Option, None, Some, nat_eq, find}
use Rattle.std.specs.Cmp.Lexicographic.{pointwise}
use Rattle.chanstate.specs.declared.member.Member.{Member}
use Rattle.chanstate.specs.declared.detail.Detail.{Detail}
use Rattle.chanstate.specs.declared.detail.Detail.TheVariants.{Account, Address}
use Rattle.std.specs.List.{list_any}
use Rattle.ircline.specs.declared.message.Message.{Message}
use Rattle.chanstate.specs.declared.channel.Channel.{Channel}
use Rattle.chanstate.specs.declared.state.ChanState.{ChanState}
use Rattle.rfccase.specs.Casemapping.{is_same_by}
use Rattle.chanstate.specs.Members.{is_called, has_member}
use Rattle.chanstate.specs.Channels.{is_held}
use Rattle.chanstate.specs.Announced.{is_typed}
use Rattle.chanstate.specs.Views.{mapping_of, channel_in, member_in}
use Rattle.chanstate.specs.Items.{Item, Welcomed, Announced, Joined, Left, Departed, Renamed, ModesSet, Marked, Titled, NamesTold, Listed, Addressed}
use Rattle.chanstate.specs.Items.{Told, ToldAtJoin, JoinsTell}
use Rattle.chanstate.specs.Items.{names_in, items_of}
use Rattle.rfccase.specs.declared.casemappings.Casemapping.{Casemapping}

-- whether the channel is held, and nobody there has this nick
abbrev pub lacks : Casemapping → List ℕ → Option Channel → Bool
lacks mapping nick None = false
lacks mapping nick (Some channel) = not (has_member mapping nick channel.members)

-- whether the channel is held, and has another topic
abbrev pub retitles : List ℕ → Option Channel → Bool
retitles topic None = false
retitles topic (Some channel) = not (pointwise nat_eq channel.topic topic)

-- whether the member is present, and has another address
abbrev pub readdresses : List ℕ → List ℕ → Option Member → Bool
readdresses user host None = false
readdresses user host (Some m) = not (pointwise nat_eq m.user user) || not (pointwise nat_eq m.host host)

-- whether the member is present, and its nick is spelled otherwise
abbrev pub respells : List ℕ → Option Member → Bool
respells nick None = false
respells nick (Some m) = not (pointwise nat_eq m.nick nick)

-- whether the member is present, and something else is known of it
abbrev pub relogs : List ℕ → Option Member → Bool
relogs account None = false
relogs account (Some m) = not (pointwise nat_eq m.account account)

abbrev pub retells : Detail → Option Member → Bool
retells (Account account) o = relogs account o
retells (Address user host) o = readdresses user host o

-- whether this is so on some channel
abbrev pub tells : List ℕ → Detail → ChanState → Bool
tells nick detail s = list_any (λ c. retells detail (find (is_called (mapping_of s) nick) c.members)) s.channels

-- whether the bot joins a channel, or another person one that is held
abbrev pub join_adds : List ℕ → List ℕ → ChanState → Bool
join_adds nick channel s = is_same_by (mapping_of s) nick s.nick || is_held (mapping_of s) channel s.channels

-- whether an item concerns a held channel or the bot's own nick, and brings a text to keep
abbrev pub adds : Item → ChanState → Bool
adds (Welcomed nick) s = true
adds (Announced tokens) s = false
adds (Joined nick user host channel) s = is_typed s.support channel && join_adds nick channel s
adds (Left nick channel) s = false
adds (Departed nick) s = false
adds (Renamed old new) s =
    (is_same_by (mapping_of s) old s.nick && not (pointwise nat_eq s.nick new))
    || list_any (λ c. respells new (find (is_called (mapping_of s) old) c.members)) s.channels
adds (ModesSet channel modes arguments) s = false
adds (Marked channel mark on nick) s = false
adds (Titled channel topic) s = retitles topic (channel_in channel s)
adds (NamesTold channel names) s = list_any (λ one. lacks (mapping_of s) one.nick (channel_in channel s)) (names_in s.support names)
adds (Listed channel one) s = lacks (mapping_of s) one.nick (channel_in channel s)
adds (Addressed channel nick user host) s = readdresses user host (member_in channel nick s)
adds (Told nick detail) s = tells nick detail s
adds (ToldAtJoin nick account) s = s.support.joins_tell && tells nick (Account account) s
adds (JoinsTell tell) s = false

-- whether one of these items does
abbrev pub any_adds : List Item → ChanState → Bool
any_adds items s = list_any (λ item. adds item s) items

-- whether a message may allocate
abbrev pub takes_memory : Message → ChanState → Bool
takes_memory m s = any_adds (items_of m) s
