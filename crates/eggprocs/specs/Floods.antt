-- What `kickfloods` requests when somebody passes a limit of floods (after what Eggdrop does at its flood limits). The
-- bot's own process puts in the line FLOOD USER@HOST PLACE :KIND then. USER@HOST is in the lower case of ASCII. PLACE is
-- the channel of the flood, or * for a flood on no channel.
use Rattle.std.specs.Prelude.{ℕ, ◌&&◌, not, Bool, List, [], ◌∷◌, ◌++◌, take, if◌then◌else◌, codes, Option, Some, None}
use Rattle.std.specs.List.{filter_map, flat_map, list_any}
use Rattle.std.specs.Str.{bytes_eq}
use Rattle.bytetext.specs.Words.{first_word, after_word}
use Rattle.rfccase.specs.Casemapping.{is_same_by}
use Rattle.rfccase.specs.declared.casemappings.Casemapping.TheVariants.{Ascii}
use Rattle.chanstate.specs.declared.member.Member.{Member}
use Rattle.chanstate.specs.Views.{members_in, channels_with}
use Rattle.outqueue.specs.declared.queue.Queue.TheVariants.{Mode as mode_queue}
use Rattle.procs.specs.declared.action.Action.{Action}
use Rattle.procs.specs.declared.call.Call.{Call}
use Rattle.procs.specs.declared.limits.TheConstants.{MAX_ACTIONS}
use Rattle.procs.specs.Seen.{Seen}
use Rattle.eggprocs.specs.declared.duties.Duty.TheVariants.{TurnsOp}
use Rattle.eggprocs.specs.Args.{arg_at, channel_of}
use Rattle.eggprocs.specs.Channel.{put}
use Rattle.eggprocs.specs.Ctcp.{is_raw, command_of, without_colon}
use Rattle.eggprocs.specs.Ends.{call_on}
use Rattle.eggprocs.specs.Keeping.{is_spared}
use Rattle.eggprocs.specs.Lines.{mode, kick}
use Rattle.eggprocs.specs.Rights.{is_op_of}
use Rattle.eggprocs.specs.Turns.{share_out}

-- ---- the line

-- whether a call is for such a line
abbrev pub is_flood : Call → Bool
is_flood call = is_raw call.kind && bytes_eq (command_of call) (codes "FLOOD")

-- USER@HOST, PLACE and KIND
abbrev pub flooder_of : Call → List ℕ
flooder_of call = first_word (arg_at call.args 2)

abbrev pub flood_place : Call → List ℕ
flood_place call = first_word (after_word (arg_at call.args 2))

abbrev pub flood_kind : Call → List ℕ
flood_kind call = without_colon (after_word (after_word (arg_at call.args 2)))

-- a flood on no channel, and one of joins, or of changes of the nick
abbrev pub is_nowhere : Call → Bool
is_nowhere call = bytes_eq (flood_place call) (codes "*")

abbrev pub is_of_joins : Call → Bool
is_of_joins call = bytes_eq (flood_kind call) (codes "joins")

abbrev pub is_of_nicks : Call → Bool
is_of_nicks call = bytes_eq (flood_kind call) (codes "nick changes")

-- ---- on one channel: `on` is a call on it, by which the bots work out who is the first there

-- whether a member has the address of the line
abbrev pub is_flooder : Call → Member → Bool
is_flooder call member = is_same_by Ascii (member.user ++ codes "@" ++ member.host) (flooder_of call)

-- the reason of a kick, and the mask of a ban
abbrev pub flood_reason : Call → List ℕ
flood_reason call = codes "flood of " ++ flood_kind call

abbrev pub flood_mask : Call → List ℕ
flood_mask call = codes "*!" ++ flooder_of call

-- a kick of a member who has the address, unless bans spare that member
abbrev pub flood_kick : Call → Call → Seen → Member → Option Action
flood_kick on call seen member =
    if is_flooder call member && not (is_spared on seen member)
    then Some (put mode_queue (kick (channel_of on) member.nick (flood_reason call)))
    else None

-- the kicks of the first eight such members, in the order in which they came
abbrev pub flood_kicks : Call → Call → Seen → List Action
flood_kicks on call seen = take MAX_ACTIONS (filter_map (flood_kick on call seen) (members_in (channel_of on) seen.sight.channels))

-- whether a member has the address whom bans spare
abbrev pub is_spared_flooder : Call → Call → Seen → Member → Bool
is_spared_flooder on call seen member = is_flooder call member && is_spared on seen member

abbrev pub spares_address : Call → Call → Seen → Bool
spares_address on call seen = list_any (is_spared_flooder on call seen) (members_in (channel_of on) seen.sight.channels)

-- who floods by joins is also banned, if bans spare nobody of that address
abbrev pub is_banned : Call → Call → Seen → Bool
is_banned on call seen = is_of_joins call && not (spares_address on call seen)

abbrev pub flood_ban : Call → Call → Action
flood_ban on call = put mode_queue (mode (channel_of on) (codes "+b") (flood_mask call))

-- the ban first, and then the kicks, as many as an answer has room for
abbrev pub flood_lines : Call → Call → Seen → List Action
flood_lines on call seen =
    if is_banned on call seen then take MAX_ACTIONS (flood_ban on call ∷ flood_kicks on call seen) else flood_kicks on call seen

-- what the bot requests of these lines where it is an operator: all if it is the first of the bots that are operators
-- there, and otherwise later looks
abbrev pub flood_on : List ℕ → Call → Seen → List Action
flood_on channel call seen =
    if is_op_of channel seen then share_out TurnsOp (call_on channel) seen (flood_lines (call_on channel) call seen) else []

-- ---- what is requested

-- on all channels of the bot, in the order in which it joined them, as much as an answer has room for
abbrev pub floods_all : Call → Seen → List Action
floods_all call seen =
    take MAX_ACTIONS (flat_map (λ channel. flood_on channel call seen) (channels_with seen.sight.channels.nick seen.sight.channels))

-- of a flood on no channel, only one of changes of the nick counts, since all channels see it
abbrev pub flood_nowhere : Call → Seen → List Action
flood_nowhere call seen = if is_of_nicks call then floods_all call seen else []

-- what `kickfloods` requests
abbrev pub asked_by_kickfloods : Call → Seen → List Action
asked_by_kickfloods call seen =
    if is_flood call then (if is_nowhere call then flood_nowhere call seen else flood_on (flood_place call) call seen) else []
