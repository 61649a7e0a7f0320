-- The bot's channels after a message.
use Rattle.std.specs.Prelude.{ℕ, List, [], ◌∷◌, if◌then◌else◌}
use Rattle.ircline.specs.declared.message.Message.{Message}
use Rattle.chanstate.specs.declared.state.ChanState.{ChanState}
use Rattle.rfccase.specs.Casemapping.{is_same_by}
use Rattle.chanstate.specs.Firsts.{first_removed, first_changed}
use Rattle.chanstate.specs.Members.{is_called, unmarked, with_mark, with_address, arrived, listed}
use Rattle.chanstate.specs.Channels.{is_named, opened, with_topic, on_channel, put_last, all_without, all_renamed, all_told}
use Rattle.chanstate.specs.Announced.{welcomed, announced, with_join, with_joins_tell}
use Rattle.chanstate.specs.Views.{mapping_of}
use Rattle.chanstate.specs.Items.{Item, Welcomed, Announced, Joined, Left, Departed, Renamed, ModesSet, Marked, Titled, NamesTold, Listed, Addressed}
use Rattle.chanstate.specs.Items.{Told, ToldAtJoin, JoinsTell}
use Rattle.chanstate.specs.Items.{read_by, items_of}

-- A person joins a channel; if the person is the bot, the channel is put last as one just joined. From then on the
-- casemapping stays.
abbrev pub joined : List ℕ → List ℕ → List ℕ → List ℕ → ChanState → ChanState
joined nick user host channel s =
    if is_same_by (mapping_of s) nick s.nick
    then record s {
      channels = put_last (mapping_of s) (opened channel (unmarked nick user host)) s.channels;
      support = with_join s.support;
    }
    else record s {
      channels = on_channel (mapping_of s) channel (arrived (mapping_of s) (unmarked nick user host)) s.channels;
      support = with_join s.support;
    }

-- a nick leaves a channel; if the nick is the bot's, the channel is removed
abbrev pub left : List ℕ → List ℕ → ChanState → ChanState
left nick channel s =
    if is_same_by (mapping_of s) nick s.nick
    then record s { channels = first_removed (is_named (mapping_of s) channel) s.channels }
    else record s { channels = on_channel (mapping_of s) channel (first_removed (is_called (mapping_of s) nick)) s.channels }

-- a nick leaves the network; if the nick is the bot's, all channels are removed
abbrev pub departed : List ℕ → ChanState → ChanState
departed nick s =
    if is_same_by (mapping_of s) nick s.nick
    then record s { channels = [] }
    else record s { channels = all_without (mapping_of s) nick s.channels }

-- the state after one item that means itself; an item that stands for others changes nothing by itself
abbrev pub step : Item → ChanState → ChanState
step (Welcomed nick) s = record { nick = nick; channels = []; support = welcomed s.support }
step (Announced tokens) s = record s { support = announced tokens s.support }
step (Joined nick user host channel) s = joined nick user host channel s
step (Left nick channel) s = left nick channel s
step (Departed nick) s = departed nick s
step (Renamed old new) s =
    record s {
      nick = if is_same_by (mapping_of s) old s.nick then new else s.nick;
      channels = all_renamed (mapping_of s) old new s.channels;
    }
step (ModesSet channel modes arguments) s = s
step (Marked channel mark on nick) s =
    record s { channels = on_channel (mapping_of s) channel (first_changed (is_called (mapping_of s) nick) (with_mark mark on)) s.channels }
step (Titled channel topic) s =
    record s { channels = first_changed (is_named (mapping_of s) channel) (with_topic topic) s.channels }
step (NamesTold channel names) s = s
step (Listed channel one) s =
    record s { channels = on_channel (mapping_of s) channel (listed (mapping_of s) one) s.channels }
step (Addressed channel nick user host) s =
    record s { channels = on_channel (mapping_of s) channel (first_changed (is_called (mapping_of s) nick) (with_address user host)) s.channels }
step (Told nick detail) s = record s { channels = all_told (mapping_of s) nick detail s.channels }
step (ToldAtJoin nick account) s = s
step (JoinsTell tell) s = record s { support = with_joins_tell tell s.support }

abbrev pub each_step : List Item → ChanState → ChanState
each_step [] s = s
each_step (item ∷ more) s = each_step more (step item s)

-- the state after some items, in their order: each is read by what the server has announced before it
abbrev pub steps : List Item → ChanState → ChanState
steps [] s = s
steps (item ∷ more) s = steps more (each_step (read_by s.support item) s)

-- the state after a message
abbrev pub after : Message → ChanState → ChanState
after m s = steps (items_of m) s
