-- The channels that the bot is on, in the order in which it joined them.
use Rattle.std.specs.Prelude.{ℕ, Bool, List, [], ◌∷◌, ◌++◌, map}
use Rattle.std.specs.List.{list_any}
use Rattle.chanstate.specs.declared.member.Member.{Member}
use Rattle.chanstate.specs.declared.channel.Channel.{Channel}
use Rattle.rfccase.specs.Casemapping.{is_same_by}
use Rattle.chanstate.specs.Firsts.{first_removed, first_changed}
use Rattle.chanstate.specs.declared.detail.Detail.{Detail}
use Rattle.chanstate.specs.Members.{is_called, renamed, with_detail}
use Rattle.rfccase.specs.declared.casemappings.Casemapping.{Casemapping}

-- whether the channel has this name
abbrev pub is_named : Casemapping → List ℕ → Channel → Bool
is_named mapping name channel = is_same_by mapping name channel.name

-- whether a channel of this name is held
abbrev pub is_held : Casemapping → List ℕ → List Channel → Bool
is_held mapping name channels = list_any (is_named mapping name) channels

-- a channel that the bot has just joined: it has no other member and no topic
abbrev pub opened : List ℕ → Member → Channel
opened name bot = record { name = name; topic = []; members = bot ∷ [] }

-- the channel with another topic
abbrev pub with_topic : List ℕ → Channel → Channel
with_topic topic channel = record channel { topic = topic }

-- the channel with its members changed by `change`
abbrev pub with_members : (List Member → List Member) → Channel → Channel
with_members change channel = record channel { members = change channel.members }

-- the channels with the members of one channel changed, if it is held
abbrev pub on_channel : Casemapping → List ℕ → (List Member → List Member) → List Channel → List Channel
on_channel mapping name change channels = first_changed (is_named mapping name) (with_members change) channels

-- the channels with `one` last; an older channel of that name is removed
abbrev pub put_last : Casemapping → Channel → List Channel → List Channel
put_last mapping one channels = first_removed (is_named mapping one.name) channels ++ one ∷ []

-- the channels without the member of this nick
abbrev pub all_without : Casemapping → List ℕ → List Channel → List Channel
all_without mapping nick channels = map (with_members (first_removed (is_called mapping nick))) channels

-- the channels with the nick of a member changed
abbrev pub all_renamed : Casemapping → List ℕ → List ℕ → List Channel → List Channel
all_renamed mapping old new channels = map (with_members (renamed mapping old new)) channels

-- the channels with what the server has told of a nick, wherever there is a member of that nick
abbrev pub all_told : Casemapping → List ℕ → Detail → List Channel → List Channel
all_told mapping nick detail channels = map (with_members (first_changed (is_called mapping nick) (with_detail detail))) channels

-- the channels with each of these put last, in order
abbrev pub put_each_last : Casemapping → List Channel → List Channel → List Channel
put_each_last mapping [] channels = channels
put_each_last mapping (one ∷ more) channels = put_each_last mapping more (put_last mapping one channels)
