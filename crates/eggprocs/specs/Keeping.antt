-- What `protectops`, `bitch` and `enforcebans` request when somebody changes a channel's modes (after Eggdrop's channel
-- settings of these names; as Eggdrop, the first two leave alone what a master or another bot does, so that no two bots
-- undo each other's modes without end). A proc sees the channel as it was before the change.
use Rattle.std.specs.Prelude.{ℕ, ◌==◌, length, not, ◌&&◌, ◌||◌, List, [], ◌∷◌, take, Bool, if◌then◌else◌, codes, Option, Some, None}
use Rattle.std.specs.List.{filter_map}
use Rattle.std.specs.Option.{option_map}
use Rattle.rfccase.specs.Casemapping.{is_same_by}
use Rattle.userfile.specs.declared.flags.PersonFlags.{PersonFlags}
use Rattle.userfile.specs.Hostmasks.{is_match}
use Rattle.userfile.specs.Shapes.{is_hostmask}
use Rattle.chanstate.specs.declared.member.Member.{Member}
use Rattle.chanstate.specs.Views.{mapping_of, member_in, members_in}
use Rattle.outqueue.specs.declared.queue.Queue.TheVariants.{Mode as mode_queue}
use Rattle.procs.specs.declared.action.Action.{Action}
use Rattle.procs.specs.declared.call.Call.{Call}
use Rattle.procs.specs.declared.limits.TheConstants.{MAX_ACTIONS}
use Rattle.procs.specs.Seen.{Seen}
use Rattle.eggprocs.specs.Args.{nick_of, channel_of, mode_argument}
use Rattle.eggprocs.specs.Channel.{put}
use Rattle.eggprocs.specs.Everyone.{is_own_nick, address_of, flags_of_member}
use Rattle.eggprocs.specs.Lines.{mode, kick}
use Rattle.eggprocs.specs.Rights.{has_master, has_op, has_bot, is_protected, is_change, is_bot_op, flags_by}

-- ---- the change

-- this change, as +o, on a channel on which the bot is an operator
abbrev pub is_change_here : List ℕ → Call → Seen → Bool
is_change_here change call seen = is_change change call && is_bot_op call seen

-- whether the bot itself made the change
abbrev pub is_by_bot : Call → Seen → Bool
is_by_bot call seen = is_own_nick seen (nick_of call)

-- whether a server made the change: the events of a server have no nick (chanstate, by_anyone)
abbrev pub is_by_server : Call → Bool
is_by_server call = length (nick_of call) == 0

-- whether a master or a bot by the userfile made the change: the flag m or n, everywhere or on the channel, or the flag
-- b everywhere
abbrev pub is_by_trusted : Call → Seen → Bool
is_by_trusted call seen = has_master (flags_by call seen) || has_bot (flags_by call seen)

-- this change, made by anybody but the bot itself
abbrev pub is_change_by_others : List ℕ → Call → Seen → Bool
is_change_by_others change call seen = is_change_here change call seen && not (is_by_bot call seen)

-- this change, made by anybody but the bot itself, masters and other bots
abbrev pub is_change_by_untrusted : List ℕ → Call → Seen → Bool
is_change_by_untrusted change call seen = is_change_by_others change call seen && not (is_by_trusted call seen)

-- the mode with the argument that the change has
abbrev pub mode_back : List ℕ → Call → List Action
mode_back change call = put mode_queue (mode (channel_of call) change (mode_argument call)) ∷ []

-- ---- op

-- the flags of the member whom the change names, if there is such a member
abbrev pub flags_named : Call → Seen → Option PersonFlags
flags_named call seen = option_map (flags_of_member call seen) (member_in (channel_of call) (mode_argument call) seen.sight.channels)

-- whether the change names the bot
abbrev pub names_bot : Call → Seen → Bool
names_bot call seen = is_own_nick seen (mode_argument call)

-- whether the change names the person who makes it
abbrev pub names_caller : Call → Seen → Bool
names_caller call seen = is_same_by (mapping_of seen.sight.channels) (mode_argument call) (nick_of call)

-- somebody who is no master and no bot takes op from another person, who is not the bot itself
abbrev pub takes_op : Call → Seen → Bool
takes_op call seen = is_change_by_untrusted (codes "-o") call seen && (not (names_bot call seen) && not (names_caller call seen))

-- a person who is no master and no bot gives op to somebody, who is not the bot itself
abbrev pub gives_op : Call → Seen → Bool
gives_op call seen = is_change_by_untrusted (codes "+o") call seen && (not (is_by_server call) && not (names_bot call seen))

-- op again for a member with these flags, if they are an operator's
abbrev pub op_again : Call → Option PersonFlags → List Action
op_again call None = []
op_again call (Some flags) = if has_op flags then mode_back (codes "+o") call else []

-- the end of op for a member with these flags, unless they are an operator's or a bot's
abbrev pub op_undone : Call → Option PersonFlags → List Action
op_undone call None = []
op_undone call (Some flags) = if has_op flags || has_bot flags then [] else mode_back (codes "-o") call

-- what `protectops` requests: op again for an operator by the userfile
abbrev pub asked_by_protectops : Call → Seen → List Action
asked_by_protectops call seen = if takes_op call seen then op_again call (flags_named call seen) else []

-- what `bitch` requests: the end of op for a member who is neither an operator nor a bot by the userfile
abbrev pub asked_by_bitch : Call → Seen → List Action
asked_by_bitch call seen = if gives_op call seen then op_undone call (flags_named call seen) else []

-- ---- bans

-- whether a ban's mask matches a member, by the casemapping of the server
abbrev pub is_hit : List ℕ → Seen → Member → Bool
is_hit mask seen member = is_match (mapping_of seen.sight.channels) mask (address_of member)

-- whether a member is the bot itself
abbrev pub is_self : Seen → Member → Bool
is_self seen member = is_own_nick seen member.nick

-- whether bans spare a member: the bot itself, and an operator or friend by the userfile
abbrev pub is_spared : Call → Seen → Member → Bool
is_spared call seen member = is_self seen member || is_protected (flags_of_member call seen member)

-- a kick of a member whom the mask matches, unless bans spare that member
abbrev pub kick_for : List ℕ → Call → Seen → Member → Option Action
kick_for mask call seen member =
    if is_hit mask seen member && not (is_spared call seen member)
    then Some (put mode_queue (kick (channel_of call) member.nick (codes "banned")))
    else None

-- what `enforcebans` requests, whoever sets a ban: kicks of the first eight members whom its mask matches and whom bans
-- don't spare, in the order in which they came
abbrev pub asked_by_enforcebans : Call → Seen → List Action
asked_by_enforcebans call seen =
    if is_change_here (codes "+b") call seen && is_hostmask (mode_argument call)
    then take MAX_ACTIONS (filter_map (kick_for (mode_argument call) call seen) (members_in (channel_of call) seen.sight.channels))
    else []
