-- What `opall` requests: when the bot gets op, the members of the channel get what `autoop` gives to a person who
-- joins.
use Rattle.std.specs.Prelude.{ℕ, not, ◌&&◌, ◌||◌, List, [], ◌∷◌, ◌++◌, take, Bool, if◌then◌else◌, codes, Option, Some, None}
use Rattle.std.specs.List.{filter_map}
use Rattle.std.specs.Option.{option_map}
use Rattle.rfccase.specs.Casemapping.{is_same_by}
use Rattle.userfile.specs.declared.flags.PersonFlags.{PersonFlags}
use Rattle.userfile.specs.Persons.{flags_of}
use Rattle.chanstate.specs.declared.member.Member.{Member}
use Rattle.chanstate.specs.Views.{mapping_of, members_in}
use Rattle.outqueue.specs.declared.queue.Queue.TheVariants.{Mode as mode_queue, Server}
use Rattle.procs.specs.declared.action.Action.{Action}
use Rattle.procs.specs.declared.call.Call.{Call}
use Rattle.procs.specs.declared.limits.TheConstants.{MAX_ACTIONS}
use Rattle.procs.specs.Identity.{handle_by}
use Rattle.procs.specs.Seen.{Seen}
use Rattle.eggprocs.specs.declared.rights.TheConstants.{AUTO_OP, AUTO_VOICE}
use Rattle.eggprocs.specs.Args.{mode_argument, nick_of, channel_of}
use Rattle.eggprocs.specs.Channel.{put}
use Rattle.eggprocs.specs.Lines.{mode, who}
use Rattle.eggprocs.specs.Rights.{has_flag, is_change, is_join}

-- ---- the events that call it

-- whether a nick is the bot's own, by the casemapping of its server
abbrev pub is_own_nick : Seen → List ℕ → Bool
is_own_nick seen nick = is_same_by (mapping_of seen.sight.channels) nick seen.sight.channels.nick

-- the bot's own join
abbrev pub is_own_join : Call → Seen → Bool
is_own_join call seen = is_join call.kind && is_own_nick seen (nick_of call)

-- a mode that gives op to the bot itself
abbrev pub gives_bot_op : Call → Seen → Bool
gives_bot_op call seen = is_change (codes "+o") call && is_own_nick seen (mode_argument call)

-- ---- members

-- a member as nick!user@host
abbrev pub address_of : Member → List ℕ
address_of member = member.nick ++ codes "!" ++ member.user ++ codes "@" ++ member.host

-- the handle of a member: by the account under which the member is logged in, if a user has a hostmask of it, and else by
-- nick!user@host
abbrev pub handle_of_member : Seen → Member → List ℕ
handle_of_member seen member = handle_by (mapping_of seen.sight.channels) seen.sight.records.users member.account (address_of member)

-- the flags of a member, with those on the call's channel
abbrev pub flags_of_member : Call → Seen → Member → PersonFlags
flags_of_member call seen member = flags_of seen.sight.records.users (handle_of_member seen member) (channel_of call)

-- whether a member gets no mode: the bot itself, which the mode makes op, and a member who is op already
abbrev pub is_left : Seen → Member → Bool
is_left seen member = member.op || is_own_nick seen member.nick

-- op for the flag a, else voice for the flag g unless the member has it
abbrev pub change_lacked : Bool → PersonFlags → Option (List ℕ)
change_lacked voiced flags =
    if has_flag AUTO_OP flags then Some (codes "+o") else (if has_flag AUTO_VOICE flags && not voiced then Some (codes "+v") else None)

-- the change of mode for a member, if any
abbrev pub change_of : Call → Seen → Member → Option (List ℕ)
change_of call seen member = if is_left seen member then None else change_lacked member.voice (flags_of_member call seen member)

abbrev pub mode_for : Call → Seen → Member → Option Action
mode_for call seen member = option_map (λ change. put mode_queue (mode (channel_of call) change member.nick)) (change_of call seen member)

-- ---- what is requested

-- When the bot joins, a list of the members, since the server sends hosts only on request. When it gets op, these modes
-- for the first eight members that lack one, in the order in which they came.
abbrev pub asked_by_opall : Call → Seen → List Action
asked_by_opall call seen =
    if is_own_join call seen then put Server (who (channel_of call)) ∷ []
    else if gives_bot_op call seen then take MAX_ACTIONS (filter_map (mode_for call seen) (members_in (channel_of call) seen.sight.channels))
    else []
