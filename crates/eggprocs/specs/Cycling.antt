-- What `cycle` requests: when everybody else has left a channel on which the bot is no operator, it leaves and joins again.
-- The channel ceases as the last member leaves, and the server makes who joins first an operator (RFC 2811 section 2.2).
-- A proc sees the channel as it was before the other one left.
use Rattle.std.specs.Prelude.{ℕ, ◌==◌, ◌&&◌, ◌||◌, not, List, [], ◌∷◌, slice_index, Bool, false, if◌then◌else◌, Option, Some, None}
use Rattle.std.specs.List.{list_all}
use Rattle.rfccase.specs.Casemapping.{is_same_by}
use Rattle.chanstate.specs.declared.member.Member.{Member}
use Rattle.chanstate.specs.Views.{mapping_of, member_in, members_in}
use Rattle.outqueue.specs.declared.queue.Queue.TheVariants.{Server}
use Rattle.procs.specs.declared.action.Action.{Action}
use Rattle.procs.specs.declared.call.Call.{Call}
use Rattle.procs.specs.declared.call_kind.CallKind.{CallKind}
use Rattle.procs.specs.declared.call_kind.CallKind.TheVariants.{Raw, Msg, Msgm, Notc, Pub, Pubm, Join, Part, Sign, Kick, Nick, Mode, Topc, Account}
use Rattle.procs.specs.declared.call_kind.CallKind.TheVariants.{Bot, Time, Cron, Timer}
use Rattle.procs.specs.Seen.{Seen}
use Rattle.eggprocs.specs.Args.{arg_at, nick_of, channel_of}
use Rattle.eggprocs.specs.Channel.{put}
use Rattle.eggprocs.specs.Everyone.{is_own_nick}
use Rattle.eggprocs.specs.Keeping.{is_self}
use Rattle.eggprocs.specs.Lines.{part, join}

-- the nick that leaves a channel: of a PART or QUIT the caller's, of a KICK the one that is kicked
abbrev pub leaver_by : CallKind → Call → Option (List ℕ)
leaver_by Part call = Some (nick_of call)
leaver_by Sign call = Some (nick_of call)
leaver_by Kick call = Some (arg_at call.args 4)
leaver_by Raw call = None
leaver_by Msg call = None
leaver_by Msgm call = None
leaver_by Notc call = None
leaver_by Pub call = None
leaver_by Pubm call = None
leaver_by Join call = None
leaver_by Nick call = None
leaver_by Mode call = None
leaver_by Topc call = None
leaver_by Account call = None
leaver_by Bot call = None
leaver_by Time call = None
leaver_by Cron call = None
leaver_by Timer call = None

abbrev pub leaver_of : Call → Option (List ℕ)
leaver_of call = leaver_by call.kind call

-- a channel whose first byte is + has no operators, and nobody can make one of the name again whose first byte is !: 43
-- is '+', 33 is '!'
abbrev pub is_made_again : List ℕ → Bool
is_made_again channel = not (slice_index channel 0 == 43 || slice_index channel 0 == 33)

-- a member who is no operator, if there is one
abbrev pub lacks_op : Option Member → Bool
lacks_op None = false
lacks_op (Some member) = not member.op

-- whether a member is the bot itself, or has the nick that leaves
abbrev pub is_self_or : List ℕ → Seen → Member → Bool
is_self_or leaver seen member = is_self seen member || is_same_by (mapping_of seen.sight.channels) leaver member.nick

-- whether the bot, which is no operator, is left alone on a channel by this nick, which is another one
abbrev pub is_left_alone : List ℕ → Call → Seen → Bool
is_left_alone leaver call seen =
    (not (is_own_nick seen leaver) && lacks_op (member_in (channel_of call) seen.sight.channels.nick seen.sight.channels))
    && list_all (is_self_or leaver seen) (members_in (channel_of call) seen.sight.channels)

-- what `cycle` requests, for the nick that leaves
abbrev pub cycled : Option (List ℕ) → Call → Seen → List Action
cycled None call seen = []
cycled (Some leaver) call seen =
    if is_made_again (channel_of call) && is_left_alone leaver call seen
    then put Server (part (channel_of call)) ∷ put Server (join (channel_of call)) ∷ []
    else []

abbrev pub asked_by_cycle : Call → Seen → List Action
asked_by_cycle call seen = cycled (leaver_of call) call seen
