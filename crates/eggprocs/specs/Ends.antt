-- Bans that have ended: which of them are deleted from the records, and which are taken off their channel.
use Rattle.std.specs.Prelude.{ℕ, ◌==◌, ◌-◌, ◌&&◌, ◌||◌, not, nat_le, Bool, true, false, List, [], ◌∷◌, ◌++◌, take, length, if◌then◌else◌, codes, Option, Some, None}
use Rattle.std.specs.List.{flat_map, list_any}
use Rattle.std.specs.Option.{option_to_list}
use Rattle.userfile.specs.declared.ban.Ban.{Ban}
use Rattle.userfile.specs.Changes.{by_nobody}
use Rattle.userfile.specs.declared.edit.Edit.TheVariants.{DelBan}
use Rattle.userfile.specs.Held.{is_ban}
use Rattle.outqueue.specs.declared.queue.Queue.TheVariants.{Mode as mode_queue}
use Rattle.procs.specs.declared.action.Action.{Action}
use Rattle.procs.specs.declared.action.Action.TheVariants.{Ask}
use Rattle.procs.specs.declared.call.Call.{Call}
use Rattle.procs.specs.declared.call_kind.CallKind.{CallKind}
use Rattle.procs.specs.declared.call_kind.CallKind.TheVariants.{Raw, Msg, Msgm, Notc, Pub, Pubm, Join, Part, Sign, Kick, Nick, Mode, Topc, Account}
use Rattle.procs.specs.declared.call_kind.CallKind.TheVariants.{Bot, Time, Cron, Timer}
use Rattle.procs.specs.declared.limits.TheConstants.{MAX_ACTIONS}
use Rattle.procs.specs.Seen.{Seen}
use Rattle.eggprocs.specs.declared.ends.TheConstants.{LEFT_SECONDS}
use Rattle.eggprocs.specs.Channel.{put}
use Rattle.eggprocs.specs.Hands.{rank}
use Rattle.eggprocs.specs.Lines.{mode}
use Rattle.eggprocs.specs.Rights.{is_op_of}

-- ---- which bans have ended

-- a ban has ended if its expiry is not 0, which means never, and is at most the second
abbrev pub has_ended : ℕ → Ban → Bool
has_ended second ban = not (ban.expires == 0) && nat_le ban.expires second

-- before the bot's clock has shown a second, no ban has ended
abbrev pub has_ended_by : Option ℕ → Ban → Bool
has_ended_by None ban = false
has_ended_by (Some second) ban = has_ended second ban

-- a ban of this channel and mask, as the records compare them, which has ended
abbrev pub is_ended_of : Option ℕ → List ℕ → List ℕ → Ban → Bool
is_ended_of second channel mask ban = is_ban channel mask ban && has_ended_by second ban

abbrev pub is_ended_if : Option ℕ → List ℕ → List ℕ → Option Ban → Bool
is_ended_if second channel mask None = false
is_ended_if second channel mask (Some ban) = is_ended_of second channel mask ban

-- whether the records hold such a ban
abbrev pub holds_ended : List ℕ → List ℕ → Seen → Bool
holds_ended channel mask seen = list_any (is_ended_of seen.second channel mask) seen.sight.records.bans

-- ---- which bot ends a ban

-- a call on a channel, by which bots work out who is the first there
abbrev pub call_on : List ℕ → Call
call_on channel = record { kind = Mode; args = [] ∷ [] ∷ [] ∷ channel ∷ [] }

-- the first of the bots that are operators of the ban's channel takes the ban off it
abbrev pub lifts_on : List ℕ → Seen → Bool
lifts_on channel seen = is_op_of channel seen && (rank true (call_on channel) seen == 0)

-- A ban that any bot deletes: one of all channels, or one that no operator of its channel has ended in a day.
abbrev pub is_left : ℕ → Ban → Bool
is_left second ban = (length ban.channel == 0) || nat_le LEFT_SECONDS (second - ban.expires)

-- ---- what is requested

-- the end of a ban on its channel, and its deletion from the records, which the bot requests in nobody's name
abbrev pub lift_if : Bool → Ban → Option Action
lift_if false ban = None
lift_if true ban = Some (put mode_queue (mode ban.channel (codes "-b") ban.mask))

abbrev pub delete_if : Bool → Ban → Option Action
delete_if false ban = None
delete_if true ban = Some (Ask (by_nobody (DelBan ban.channel ban.mask)))

-- for a ban that has ended: first off its channel, then out of the records
abbrev pub ends_of : ℕ → Seen → Ban → List Action
ends_of second seen ban =
    if has_ended second ban
    then option_to_list (lift_if (lifts_on ban.channel seen) ban)
    ++ option_to_list (delete_if (lifts_on ban.channel seen || is_left second ban) ban)
    else []

-- whether a call is for a minute that begins
abbrev pub is_minute : CallKind → Bool
is_minute Time = true
is_minute Cron = true
is_minute Raw = false
is_minute Msg = false
is_minute Msgm = false
is_minute Notc = false
is_minute Pub = false
is_minute Pubm = false
is_minute Join = false
is_minute Part = false
is_minute Sign = false
is_minute Kick = false
is_minute Nick = false
is_minute Mode = false
is_minute Topc = false
is_minute Account = false
is_minute Bot = false
is_minute Timer = false

-- for all bans, in the order of the records, as many as an answer has room for
abbrev pub all_ends : Option ℕ → Seen → List Action
all_ends None seen = []
all_ends (Some second) seen = take MAX_ACTIONS (flat_map (ends_of second seen) seen.sight.records.bans)

-- what `expire` requests
abbrev pub asked_by_expire : Call → Seen → List Action
asked_by_expire call seen = if is_minute call.kind then all_ends seen.second seen else []
