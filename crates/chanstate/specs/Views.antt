-- What a bot can look up about its channels.
use Rattle.std.specs.Prelude.{ℕ, Bool, false, Option, None, Some, List, [], map, filter, find}
use Rattle.std.specs.Option.{option_map}
use Rattle.chanstate.specs.declared.member.Member.{Member}
use Rattle.chanstate.specs.declared.channel.Channel.{Channel}
use Rattle.chanstate.specs.declared.state.ChanState.{ChanState}
use Rattle.rfccase.specs.declared.casemappings.Casemapping.{Casemapping}
use Rattle.chanstate.specs.Members.{is_called, has_member}
use Rattle.chanstate.specs.Channels.{is_named}
use Rattle.chanstate.specs.Announced.{unannounced}

-- how the names of channels and members compare
abbrev pub mapping_of : ChanState → Casemapping
mapping_of s = s.support.casemapping

-- no channel is held yet, and the server has announced nothing
abbrev pub connected : List ℕ → ChanState
connected nick = record { nick = nick; channels = []; support = unannounced }

-- the channel of this name, if it is held
abbrev pub channel_in : List ℕ → ChanState → Option Channel
channel_in name s = find (is_named (mapping_of s) name) s.channels

-- the topic of the channel of this name
abbrev pub topic_in : List ℕ → ChanState → Option (List ℕ)
topic_in name s = option_map (λ channel. channel.topic) (channel_in name s)

-- the members of a channel, or none if it isn't held
abbrev pub members_of : Option Channel → List Member
members_of None = []
members_of (Some channel) = channel.members

abbrev pub members_in : List ℕ → ChanState → List Member
members_in name s = members_of (channel_in name s)

-- the member of this nick on the channel of this name
abbrev pub member_in : List ℕ → List ℕ → ChanState → Option Member
member_in name nick s = find (is_called (mapping_of s) nick) (members_in name s)

-- whether that member is a channel operator
abbrev pub is_op : Option Member → Bool
is_op None = false
is_op (Some member) = member.op

-- whether that member has voice
abbrev pub is_voice : Option Member → Bool
is_voice None = false
is_voice (Some member) = member.voice

-- the names of the channels that have a member of this nick, in the order in which the bot joined them
abbrev pub channels_with : List ℕ → ChanState → List (List ℕ)
channels_with nick s = map (λ channel. channel.name) (filter (λ channel. has_member (mapping_of s) nick channel.members) s.channels)

-- the account of a member, or none if there is none
abbrev pub account_of : Option Member → List ℕ
account_of None = []
account_of (Some member) = member.account

-- the account of the member of this nick on the first channel that has one of this nick
abbrev pub account_in : List ℕ → ChanState → List ℕ
account_in nick s =
    account_of
    (find (is_called (mapping_of s) nick)
    (members_of (find (λ channel. has_member (mapping_of s) nick channel.members) s.channels)))
