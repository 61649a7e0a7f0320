-- What `needop` and `giveop` request. A bot of a net that is no operator of a channel asks the hub for op, by a text
-- between bots. A bot that gets such a text and is an operator there gives op to a member whom the records know as a bot
-- and as an operator. (After Eggdrop's `need-op` and what its bots do about it.)
use Rattle.std.specs.Prelude.{ℕ, ◌&&◌, ◌||◌, not, Bool, true, false, List, [], ◌∷◌, ◌++◌, take, if◌then◌else◌, codes, Option, Some, None}
use Rattle.std.specs.List.{filter_map}
use Rattle.bytetext.specs.Words.{first_word, after_word}
use Rattle.userfile.specs.declared.flags.PersonFlags.{PersonFlags}
use Rattle.chanstate.specs.declared.member.Member.{Member}
use Rattle.chanstate.specs.Views.{member_in, channels_with}
use Rattle.procs.specs.declared.action.Action.{Action}
use Rattle.procs.specs.declared.action.Action.TheVariants.{SendBot, Utimer}
use Rattle.procs.specs.declared.call.Call.{Call}
use Rattle.procs.specs.declared.call_kind.CallKind.{CallKind}
use Rattle.procs.specs.declared.call_kind.CallKind.TheVariants.{Raw, Msg, Msgm, Notc, Pub, Pubm, Join, Part, Sign, Kick, Nick, Mode, Topc, Account}
use Rattle.procs.specs.declared.call_kind.CallKind.TheVariants.{Bot, Time, Cron, Timer}
use Rattle.procs.specs.declared.limits.TheConstants.{MAX_ACTIONS}
use Rattle.procs.specs.Seen.{Seen}
use Rattle.eggprocs.specs.declared.needs.TheConstants.{ASK_SECONDS, GIVE_SECONDS}
use Rattle.eggprocs.specs.Args.{arg_at, channel_of, timer_text}
use Rattle.eggprocs.specs.Cycling.{lacks_op}
use Rattle.eggprocs.specs.Ends.{call_on, is_minute}
use Rattle.eggprocs.specs.Everyone.{address_of, flags_of_member, is_own_join}
use Rattle.eggprocs.specs.Keeping.{names_bot}
use Rattle.eggprocs.specs.Lines.{mode}
use Rattle.eggprocs.specs.Looks.{look_after, or_at_once}
use Rattle.eggprocs.specs.Rights.{has_bot, has_op, is_change, is_op_of, is_timer}

-- ---- a bot without op

-- whether the bot is on a channel and is no operator there
abbrev pub lacks_op_on : List ℕ → Seen → Bool
lacks_op_on channel seen = lacks_op (member_in channel seen.sight.channels.nick seen.sight.channels)

-- the text that asks the hub for op: needop CHANNEL NICK
abbrev pub needs_op_on : List ℕ → Seen → Action
needs_op_on channel seen = SendBot (record { to = 0; text = codes "needop " ++ channel ++ codes " " ++ seen.sight.channels.nick })

-- a later look at whether the bot still lacks op: a call of `needop` with the channel
abbrev pub later_need : List ℕ → Action
later_need channel = Utimer (record { interval = ASK_SECONDS; count = 1; proc = codes "needop"; text = channel })

-- Whether the bot is to look later: it has joined, or a change of mode takes op from it. Another bot may give it op again
-- meanwhile, by `protectops`.
abbrev pub is_for_later : Call → Seen → Bool
is_for_later call seen = is_own_join call seen || (is_change (codes "-o") call && names_bot call seen)

-- Whether a change of mode gives reason to ask at once: it gives op to somebody else while the bot has none. A proc sees
-- the channel as it was before the change.
abbrev pub is_need : Call → Seen → Bool
is_need call seen =
    is_change (codes "+o") call && (not (names_bot call seen) && lacks_op_on (channel_of call) seen)

-- the text for a channel on which the bot lacks op
abbrev pub need_on : Seen → List ℕ → Option Action
need_on seen channel = if lacks_op_on channel seen then Some (needs_op_on channel seen) else None

-- the texts for the first eight such channels, in the order in which the bot joined them
abbrev pub all_needs : Seen → List Action
all_needs seen = take MAX_ACTIONS (filter_map (need_on seen) (channels_with seen.sight.channels.nick seen.sight.channels))

-- what `needop` requests for an event of a channel, or a timer
abbrev pub needs_now : Call → Seen → List Action
needs_now call seen =
    if is_for_later call seen then later_need (channel_of call) ∷ []
    else if is_need call seen then needs_op_on (channel_of call) seen ∷ []
    else if is_timer call.kind && lacks_op_on (timer_text call) seen then needs_op_on (timer_text call) seen ∷ []
    else []

-- what `needop` requests: when a minute begins, it looks at all channels
abbrev pub asked_by_needop : Call → Seen → List Action
asked_by_needop call seen = if is_minute call.kind then all_needs seen else needs_now call seen

-- ---- a bot that gives op

-- whether a call is for a text of another bot
abbrev pub is_bot_text : CallKind → Bool
is_bot_text Bot = true
is_bot_text Raw = false
is_bot_text Msg = false
is_bot_text Msgm = false
is_bot_text Notc = false
is_bot_text Pub = false
is_bot_text Pubm = false
is_bot_text Join = false
is_bot_text Part = false
is_bot_text Sign = false
is_bot_text Kick = false
is_bot_text Nick = false
is_bot_text Mode = false
is_bot_text Topc = false
is_bot_text Account = false
is_bot_text Time = false
is_bot_text Cron = false
is_bot_text Timer = false

-- the channel and the nick that a text asks for: its second word and its third one
abbrev pub needed_on : Call → List ℕ
needed_on call = first_word (arg_at call.args 2)

abbrev pub needed_by : Call → List ℕ
needed_by call = first_word (after_word (arg_at call.args 2))

-- whether the records know a member as a bot, and as an operator of the channel
abbrev pub is_known_bot : PersonFlags → Bool
is_known_bot flags = has_bot flags && has_op flags

-- Op for a member, by a look a second later. A bot asks more than once for the same op: for each of two people who get op
-- by one MODE, or when a minute begins just as its own look is due. All texts of a second make looks of one second, and no
-- line is queued twice; and a text of the next second makes a look that finds the op given.
abbrev pub op_later : List ℕ → Member → Action
op_later channel member =
    or_at_once (mode channel (codes "+o") member.nick) (look_after GIVE_SECONDS (mode channel (codes "+o") member.nick) (address_of member))

-- op for the member of the nick, if the records know it so
abbrev pub op_for : List ℕ → Option Member → Seen → List Action
op_for channel None seen = []
op_for channel (Some member) seen =
    if is_known_bot (flags_of_member (call_on channel) seen member) then op_later channel member ∷ [] else []

-- a text of another bot asks for op on a channel where this bot is an operator, and who is named is none
abbrev pub may_give : Call → Seen → Bool
may_give call seen =
    is_bot_text call.kind
    && (is_op_of (needed_on call) seen && lacks_op (member_in (needed_on call) (needed_by call) seen.sight.channels))

-- what `giveop` requests
abbrev pub asked_by_giveop : Call → Seen → List Action
asked_by_giveop call seen =
    if may_give call seen
    then op_for (needed_on call) (member_in (needed_on call) (needed_by call) seen.sight.channels) seen
    else []
