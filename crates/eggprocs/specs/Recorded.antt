-- What `keepbans` requests: that the bans of the records are kept on the channels. It bans and kicks a person who joins
-- under such a ban, and sets a sticky ban again that somebody removes.
--
-- A proc sees the channel as it was before the person joins, and no list of its bans. While another person is there whom the
-- same ban keeps off, the bot has set it when that one joined, or is about to: so it does not set it once more. If that one
-- sat there before the bot knew the ban, a later look finds that one still there, and sets it.
use Rattle.std.specs.Prelude.{ℕ, not, ◌&&◌, List, [], ◌∷◌, Bool, unwrap_or, find, if◌then◌else◌, codes, Option, Some, None}
use Rattle.std.specs.Option.{option_map}
use Rattle.userfile.specs.declared.ban.Ban.{Ban}
use Rattle.userfile.specs.Persons.{ban_for, sticky_ban}
use Rattle.chanstate.specs.declared.member.Member.{Member}
use Rattle.chanstate.specs.Views.{mapping_of, members_in}
use Rattle.outqueue.specs.declared.queue.Queue.TheVariants.{Mode as mode_queue}
use Rattle.procs.specs.declared.action.Action.{Action}
use Rattle.procs.specs.declared.call.Call.{Call}
use Rattle.procs.specs.Seen.{Seen}
use Rattle.eggprocs.specs.declared.duties.Duty.TheVariants.{FirstOp}
use Rattle.eggprocs.specs.Args.{nick_of, channel_of, mode_argument, or_else}
use Rattle.eggprocs.specs.Askers.{caller_address}
use Rattle.eggprocs.specs.Channel.{put}
use Rattle.eggprocs.specs.Cycling.{is_self_or}
use Rattle.eggprocs.specs.Everyone.{address_of}
use Rattle.eggprocs.specs.Keeping.{is_by_bot, is_change_by_others, is_hit}
use Rattle.eggprocs.specs.Lines.{mode, kick}
use Rattle.eggprocs.specs.Looks.{look_if, or_at_once}
use Rattle.eggprocs.specs.Rights.{is_join, is_bot_op}
use Rattle.eggprocs.specs.Turns.{share_out}

-- the second by which a ban has ended or not: 0 before the bot's clock shows one, so that no ban has ended then
abbrev pub second_of : Seen → ℕ
second_of seen = unwrap_or seen.second 0

-- the line that sets a ban on the call's channel, with its mask as the records spell it
abbrev pub ban_text : Call → Ban → List ℕ
ban_text call ban = mode (channel_of call) (codes "+b") ban.mask

abbrev pub ban_line : Call → Ban → Action
ban_line call ban = put mode_queue (ban_text call ban)

-- ---- a person joins

-- whether a caller who joins is to be kept off: not the bot itself, on a channel on which the bot is an operator
abbrev pub is_newcomer : Call → Seen → Bool
is_newcomer call seen = is_bot_op call seen && not (is_by_bot call seen)

-- the ban of the records that keeps the caller off the call's channel: the first that has not ended
abbrev pub ban_on : Call → Seen → Option Ban
ban_on call seen = ban_for (mapping_of seen.sight.channels) seen.sight.records.bans (channel_of call) (caller_address call) (second_of seen)

-- a kick of the caller, for the ban's comment or else `banned`
abbrev pub kick_line : Call → Ban → Action
kick_line call ban = put mode_queue (kick (channel_of call) (nick_of call) (or_else ban.comment (codes "banned")))

-- Whether a mask matches a member other than the bot and the caller. If it is the mask of a ban that keeps the caller off,
-- that ban keeps off the member too.
abbrev pub is_beside : List ℕ → Call → Seen → Member → Bool
is_beside mask call seen member = is_hit mask seen member && not (is_self_or (nick_of call) seen member)

-- the address of the first such member, in the order in which they came
abbrev pub address_beside : List ℕ → Call → Seen → Option (List ℕ)
address_beside mask call seen = option_map address_of (find (is_beside mask call seen) (members_in (channel_of call) seen.sight.channels))

-- The ban on the channel, at once or, beside such a member, by a look after five seconds: it sets the ban if that member is
-- still there.
abbrev pub ban_or_look : Call → Seen → Ban → Action
ban_or_look call seen ban = or_at_once (ban_text call ban) (look_if 1 (ban_text call ban) (address_beside ban.mask call seen))

abbrev pub kept_off : Call → Seen → Option Ban → List Action
kept_off call seen None = []
kept_off call seen (Some ban) = ban_or_look call seen ban ∷ kick_line call ban ∷ []

-- What is requested for a join: the ban on the channel, and a kick. Later bots look for both, or beside such a member for
-- the kick alone.
abbrev pub asked_for_join : Call → Seen → List Action
asked_for_join call seen = if is_newcomer call seen then kept_off call seen (ban_on call seen) else []

-- ---- a ban is removed

-- the sticky ban of the records that a change removes: the first of its mask that has not ended
abbrev pub ban_back : Call → Seen → Option Ban
ban_back call seen = sticky_ban (mapping_of seen.sight.channels) seen.sight.records.bans (channel_of call) (mode_argument call) (second_of seen)

abbrev pub set_again : Call → Option Ban → List Action
set_again call None = []
set_again call (Some ban) = ban_line call ban ∷ []

-- what is requested for a removal by anybody but the bot: the ban again, by the first bot alone
abbrev pub asked_for_removal : Call → Seen → List Action
asked_for_removal call seen =
    if is_change_by_others (codes "-b") call seen then share_out FirstOp call seen (set_again call (ban_back call seen)) else []

-- what `keepbans` requests
abbrev pub asked_by_keepbans : Call → Seen → List Action
asked_by_keepbans call seen = if is_join call.kind then asked_for_join call seen else asked_for_removal call seen
