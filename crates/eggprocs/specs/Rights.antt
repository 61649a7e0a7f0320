-- Which callers may use a proc, by the flags of the handle that the bot gives to a call (Eggdrop's flags, in its
-- document on users and flags).
use Rattle.std.specs.Prelude.{ℕ, List, ◌&&◌, ◌||◌, Bool, true, false, []}
use Rattle.std.specs.Str.{bytes_eq}
use Rattle.flagexpr.specs.Letters.{has_letter}
use Rattle.userfile.specs.declared.flags.PersonFlags.{PersonFlags}
use Rattle.userfile.specs.Persons.{flags_of}
use Rattle.chanstate.specs.Views.{member_in, is_op}
use Rattle.procs.specs.declared.call.Call.{Call}
use Rattle.procs.specs.declared.call_kind.CallKind.{CallKind}
use Rattle.procs.specs.declared.call_kind.CallKind.TheVariants.{Raw, Msg, Msgm, Notc, Pub, Pubm, Join, Part, Sign, Kick, Nick, Mode, Topc, Account}
use Rattle.procs.specs.declared.call_kind.CallKind.TheVariants.{Bot, Time, Cron, Timer}
use Rattle.procs.specs.Seen.{Seen}
use Rattle.eggprocs.specs.declared.rights.TheConstants.{OP, VOICE, FRIEND, MASTER, OWNER, BOT}
use Rattle.eggprocs.specs.declared.rights.Requester.{Requester}
use Rattle.eggprocs.specs.declared.rights.Requester.TheVariants.{Elsewhere, Stranger, Master}
use Rattle.eggprocs.specs.Args.{handle_of, channel_of, mode_change}

-- what a call is for: the first word of a text on a channel, a join, the first word of a text to the bot, a timer, or a
-- mode
abbrev pub is_pub : CallKind → Bool
is_pub Pub = true
is_pub Raw = false
is_pub Msg = false
is_pub Msgm = false
is_pub Notc = false
is_pub Pubm = false
is_pub Join = false
is_pub Part = false
is_pub Sign = false
is_pub Kick = false
is_pub Nick = false
is_pub Mode = false
is_pub Topc = false
is_pub Account = false
is_pub Bot = false
is_pub Time = false
is_pub Cron = false
is_pub Timer = false

abbrev pub is_join : CallKind → Bool
is_join Join = true
is_join Raw = false
is_join Msg = false
is_join Msgm = false
is_join Notc = false
is_join Pub = false
is_join Pubm = false
is_join Part = false
is_join Sign = false
is_join Kick = false
is_join Nick = false
is_join Mode = false
is_join Topc = false
is_join Account = false
is_join Bot = false
is_join Time = false
is_join Cron = false
is_join Timer = false

abbrev pub is_msg : CallKind → Bool
is_msg Msg = true
is_msg Raw = false
is_msg Msgm = false
is_msg Notc = false
is_msg Pub = false
is_msg Pubm = false
is_msg Join = false
is_msg Part = false
is_msg Sign = false
is_msg Kick = false
is_msg Nick = false
is_msg Mode = false
is_msg Topc = false
is_msg Account = false
is_msg Bot = false
is_msg Time = false
is_msg Cron = false
is_msg Timer = false

abbrev pub is_timer : CallKind → Bool
is_timer Timer = true
is_timer Raw = false
is_timer Msg = false
is_timer Msgm = false
is_timer Notc = false
is_timer Pub = false
is_timer Pubm = false
is_timer Join = false
is_timer Part = false
is_timer Sign = false
is_timer Kick = false
is_timer Nick = false
is_timer Mode = false
is_timer Topc = false
is_timer Account = false
is_timer Bot = false
is_timer Time = false
is_timer Cron = false

abbrev pub is_mode : CallKind → Bool
is_mode Mode = true
is_mode Raw = false
is_mode Msg = false
is_mode Msgm = false
is_mode Notc = false
is_mode Pub = false
is_mode Pubm = false
is_mode Join = false
is_mode Part = false
is_mode Sign = false
is_mode Kick = false
is_mode Nick = false
is_mode Topc = false
is_mode Account = false
is_mode Bot = false
is_mode Time = false
is_mode Cron = false
is_mode Timer = false

-- a mode that changes so, as +o
abbrev pub is_change : List ℕ → Call → Bool
is_change change call = is_mode call.kind && bytes_eq (mode_change call) change

-- the flags of the caller, with those on the call's channel
abbrev pub flags_by : Call → Seen → PersonFlags
flags_by call seen = flags_of seen.sight.records.users (handle_of call) (channel_of call)

-- whether a person has a flag, everywhere or on the channel
abbrev pub has_flag : ℕ → PersonFlags → Bool
has_flag letter flags = has_letter flags.global letter || has_letter flags.chan letter

-- whether a person has the rights of a channel's master: the flag m, or n, which gives m
abbrev pub has_master : PersonFlags → Bool
has_master flags = has_flag MASTER flags || has_flag OWNER flags

-- whether a person has the rights of a channel's operator: the flag o, or those of a master, since m gives o
abbrev pub has_op : PersonFlags → Bool
has_op flags = has_flag OP flags || has_master flags

-- whether a person is a bot by the userfile: the flag b, everywhere
abbrev pub has_bot : PersonFlags → Bool
has_bot flags = has_letter flags.global BOT

-- whether bans spare a person: an operator or a friend
abbrev pub is_protected : PersonFlags → Bool
is_protected flags = has_op flags || has_flag FRIEND flags

-- whether the bot itself is an operator of a channel
abbrev pub is_op_of : List ℕ → Seen → Bool
is_op_of channel seen = is_op (member_in channel seen.sight.channels.nick seen.sight.channels)

-- the same for the call's channel
abbrev pub is_bot_op : Call → Seen → Bool
is_bot_op call seen = is_op_of (channel_of call) seen

-- a word on a channel on which the bot is an operator, from a caller with the rights of an operator, or with these or
-- the flag v
abbrev pub is_from_op : Call → Seen → Bool
is_from_op call seen = is_pub call.kind && (is_bot_op call seen && has_op (flags_by call seen))

abbrev pub is_from_voice : Call → Seen → Bool
is_from_voice call seen =
    is_pub call.kind && (is_bot_op call seen && (has_op (flags_by call seen) || has_flag VOICE (flags_by call seen)))

-- the flags that the caller has everywhere
abbrev pub global_by : Call → Seen → ℕ
global_by call seen = (flags_of seen.sight.records.users (handle_of call) []).global

-- a master has the flag m or n everywhere
abbrev pub is_master : Call → Seen → Bool
is_master call seen = has_letter (global_by call seen) MASTER || has_letter (global_by call seen) OWNER

-- the standing of the person who says something to the bot: a master or a stranger; Elsewhere if the call is for
-- something else
abbrev pub standing_if : Bool → Bool → Requester
standing_if false master = Elsewhere
standing_if true false = Stranger
standing_if true true = Master

abbrev pub standing_of : Call → Seen → Requester
standing_of call seen = standing_if (is_msg call.kind) (is_master call seen)
