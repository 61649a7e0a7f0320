-- The channels of the server, and how each command changes them.
use Rattle.std.specs.Prelude.{ℕ, Bool, true, false, not, ◌==◌, ◌-◌, ◌&&◌, List, [], ◌∷◌, ◌++◌, Option, Some, None, map, filter, find, take, nat_lt, nat_le, length, count_by, position, slice_set, slice_index_or, if◌then◌else◌}
use Rattle.std.specs.List.{list_any}
use Rattle.rfccase.specs.Casemapping.{is_same}
use Rattle.rfccase.specs.Channels.{is_channel_name}
use Rattle.wildmask.specs.declared.faults.MaskFault.{MaskFault}
use Rattle.wildmask.specs.Masks.{GivenMask, host_mask, host_fault, is_match}
use Rattle.miniircd.specs.declared.member.ServerMember.{ServerMember}
use Rattle.miniircd.specs.declared.member.ServerChannel.{ServerChannel}
use Rattle.miniircd.specs.declared.channel_edit.ChannelEdit.{ChannelEdit}
use Rattle.miniircd.specs.declared.channel_edit.ChannelEdit.TheVariants as edit
use Rattle.miniircd.specs.declared.entrance.Entrance.{Entrance}
use Rattle.miniircd.specs.declared.entrance.Entrance.TheVariants as entrance
use Rattle.miniircd.specs.declared.undo_step.UndoStep.{UndoStep}
use Rattle.miniircd.specs.declared.undo_step.UndoStep.TheVariants as entry

-- a client that creates a channel by joining it is its operator
abbrev pub founder : ℕ → ServerMember
founder client = record { client = client; op = true; voice = false }

-- any other client that joins it has no mark
abbrev pub plain : ℕ → ServerMember
plain client = record { client = client; op = false; voice = false }

abbrev pub opened : List ℕ → ℕ → ServerChannel
opened name client = record { name = name; topic = []; members = founder client ∷ []; bans = [] }

abbrev pub is_named : List ℕ → ServerChannel → Bool
is_named name channel = is_same name channel.name

-- the channel of this name
abbrev pub room : List ℕ → List ServerChannel → Option ServerChannel
room name channels = find (is_named name) channels

abbrev pub is_client : ℕ → ServerMember → Bool
is_client client member = member.client == client

-- a client among members
abbrev pub member_of : ℕ → List ServerMember → Option ServerMember
member_of client members = find (is_client client) members

abbrev pub has_member : ℕ → List ServerMember → Bool
has_member client members = list_any (is_client client) members

-- a change of a channel
pub data Edition : Type 0 where
  -- a client joins
  Enter : ℕ → Edition
  -- a client leaves
  Leave : ℕ → Edition
  -- the topic becomes this one
  Title : List ℕ → Edition
  -- a mark of a client is set or cleared: the voice, or else the mark of an operator
  Mark : ℕ → Bool → Bool → Edition
  -- a ban is set or cleared
  Ban : List ℕ → Bool → Edition

-- what contracts see of a borrowed edit
abbrev pub seen : ChannelEdit → Edition
seen (edit.Enter client) = Enter client
seen (edit.Leave client) = Leave client
seen (edit.Title topic) = Title topic.now
seen (edit.Mark client is_voice on) = Mark client is_voice on
seen (edit.Ban text on) = Ban text.now on

-- the members after an edit
abbrev pub marked : ℕ → Bool → Bool → ServerMember → ServerMember
marked client is_voice on member =
    if is_client client member
    then (if is_voice then record member { voice = on } else record member { op = on })
    else member

abbrev pub members_after : Edition → List ServerMember → List ServerMember
members_after (Enter client) members = members ++ plain client ∷ []
members_after (Leave client) members = filter (λ m. not (is_client client m)) members
members_after (Title topic) members = members
members_after (Ban text on) members = members
members_after (Mark client is_voice on) members = map (marked client is_voice on) members

abbrev pub topic_after : Edition → List ℕ → List ℕ
topic_after (Title topic) old = topic
topic_after (Enter client) old = old
topic_after (Ban text on) old = old
topic_after (Leave client) old = old
topic_after (Mark client is_voice on) old = old

-- whether a ban has this text, by casemapping
abbrev pub is_ban : List ℕ → GivenMask → Bool
is_ban text mask = is_same text mask.text

abbrev pub other_bans : List ℕ → List GivenMask → List GivenMask
other_bans text bans = filter (λ mask. not (is_ban text mask)) bans

-- the ban of a text: none if the text is not a hostmask
abbrev pub ban_unless : Option MaskFault → List ℕ → List GivenMask
ban_unless None text = host_mask text ∷ []
ban_unless (Some fault) text = []

-- a ban that is set stands last, and only once
abbrev pub bans_after : Edition → List GivenMask → List GivenMask
bans_after (Ban text on) bans = other_bans text bans ++ (if on then ban_unless (host_fault text) text else [])
bans_after (Enter client) bans = bans
bans_after (Leave client) bans = bans
bans_after (Title topic) bans = bans
bans_after (Mark client is_voice on) bans = bans

-- a channel has at most 60 bans: if it has as many others, there is no room for this one
abbrev pub is_full : List ℕ → Option ServerChannel → Bool
is_full text None = false
is_full text (Some channel) = nat_le 60 (count_by (λ mask. not (is_ban text mask)) channel.bans)

-- a channel after an edit
abbrev pub edited : Edition → ServerChannel → ServerChannel
edited edit channel = record {
  name = channel.name;
  topic = topic_after edit channel.topic;
  members = members_after edit channel.members;
  bans = bans_after edit channel.bans;
}

-- a channel that nobody is on is removed
abbrev pub is_used : ServerChannel → Bool
is_used channel = nat_lt 0 (length channel.members)

-- the channel of one name after an edit, or all channels if there is no name
abbrev pub concerns : Option (List ℕ) → ServerChannel → Bool
concerns None channel = true
concerns (Some name) channel = is_named name channel

abbrev pub edited_if : Option (List ℕ) → Edition → ServerChannel → ServerChannel
edited_if name edit channel = if concerns name channel then edited edit channel else channel

abbrev pub rooms_after : Option (List ℕ) → Edition → List ServerChannel → List ServerChannel
rooms_after name edit channels = filter is_used (map (edited_if name edit) channels)

-- whether a client is on the channel of this name
abbrev pub is_on_some : ℕ → Option ServerChannel → Bool
is_on_some client None = false
is_on_some client (Some channel) = has_member client channel.members

-- ---- who may join (RFC 2812 section 3.2.1)

-- a ban keeps out each client whose nick!user@host its mask matches
abbrev pub is_banned : List ℕ → Option ServerChannel → Bool
is_banned source None = false
is_banned source (Some channel) = list_any (λ mask. is_match mask source) channel.bans

-- how many channels a client is on
abbrev pub count_of : ℕ → List ServerChannel → ℕ
count_of client channels = count_by (λ channel. has_member client channel.members) channels

-- what keeps a client, given by its number and its nick!user@host, out of a channel
abbrev pub entrance_of : ℕ → List ℕ → List ℕ → List ServerChannel → Entrance
entrance_of client source name channels =
    if not (is_channel_name name) then entrance.Nameless
    else (if is_on_some client (room name channels) then entrance.Inside
    else (if nat_le 20 (count_of client channels) then entrance.TooMany
    else (if is_banned source (room name channels) then entrance.Banned
    else entrance.Open)))

-- a client enters the first channel of this name, or creates one that doesn't exist
abbrev pub entered_at : Option ℕ → List ℕ → ℕ → List ServerChannel → List ServerChannel
entered_at None name client channels = channels ++ opened name client ∷ []
entered_at (Some place) name client channels =
    slice_set channels place (edited (Enter client) (slice_index_or channels place (opened name client)))

abbrev pub entered : List ℕ → ℕ → List ServerChannel → List ServerChannel
entered name client channels = entered_at (position (is_named name) channels) name client channels

abbrev pub joined_by : Entrance → List ℕ → ℕ → List ServerChannel → List ServerChannel
joined_by entrance.Open name client channels = entered name client channels
joined_by entrance.Nameless name client channels = channels
joined_by entrance.Inside name client channels = channels
joined_by entrance.TooMany name client channels = channels
joined_by entrance.Banned name client channels = channels

abbrev pub joined : ℕ → List ℕ → List ℕ → List ServerChannel → List ServerChannel
joined client source name channels = joined_by (entrance_of client source name channels) name client channels

-- the channels of a list of names, one after another
abbrev pub joined_each : ℕ → List ℕ → List (List ℕ) → List ServerChannel → List ServerChannel
joined_each client source [] channels = channels
joined_each client source (name ∷ names) channels = joined_each client source names (joined client source name channels)

-- the channels as they were before an entry
abbrev pub undone : UndoStep → List ServerChannel → List ServerChannel
undone entry.Nowhere channels = channels
undone entry.Made channels = take (length channels - 1) channels
undone (entry.Came place old) channels = slice_set channels place old

-- whether two clients share a channel
abbrev pub shares : ℕ → ℕ → List ServerChannel → Bool
shares a b channels = list_any (λ channel. has_member a channel.members && has_member b channel.members) channels
