-- What a bot looks for that lets another bot go first: whether its line still has something to do. If so, it sends it.
use Rattle.std.specs.Prelude.{ℕ, not, ◌&&◌, List, [], ◌∷◌, ◌++◌, ◌*◌, Bool, false, unwrap_or, if◌then◌else◌, codes, Option, Some, None}
use Rattle.std.specs.List.{list_any}
use Rattle.std.specs.Option.{option_map}
use Rattle.std.specs.Str.{bytes_eq}
use Rattle.bytetext.specs.Words.{first_word, after_word}
use Rattle.chanstate.specs.declared.member.Member.{Member}
use Rattle.chanstate.specs.Views.{member_in, members_in}
use Rattle.outqueue.specs.declared.queue.Queue.TheVariants.{Mode as mode_queue}
use Rattle.procs.specs.declared.action.Action.{Action}
use Rattle.procs.specs.declared.action.Action.TheVariants.{Ask, Timer, Utimer, KillTimer, SendBot, Put}
use Rattle.procs.specs.declared.call.Call.{Call}
use Rattle.procs.specs.Seen.{Seen}
use Rattle.eggprocs.specs.declared.looks.TheConstants.{LOOK_SECONDS}
use Rattle.eggprocs.specs.Args.{channel_of, timer_text}
use Rattle.eggprocs.specs.Askers.{caller_address}
use Rattle.eggprocs.specs.Channel.{put}
use Rattle.eggprocs.specs.Effects.{channel_in, target_in, effect_in, is_ban, is_done}
use Rattle.eggprocs.specs.Everyone.{address_of}
use Rattle.eggprocs.specs.Rights.{is_join, is_op_of, is_timer}

-- ---- whether it is still to be done

-- whether there is a member of this address who does not show the effect of this line
abbrev pub is_wanted_of : List ℕ → List ℕ → Option Member → Bool
is_wanted_of address line None = false
is_wanted_of address line (Some member) = bytes_eq (address_of member) address && not (is_done (effect_in line) member)

-- whether there is a member of this address on a channel
abbrev pub is_here : List ℕ → List ℕ → Seen → Bool
is_here address channel seen = list_any (λ member. bytes_eq (address_of member) address) (members_in channel seen.sight.channels)

-- A ban is wanted while the person for whom it is set is there. So a bot whose turn comes later sets it only if it also
-- kicks that person.
unfoldable pub is_wanted : List ℕ → List ℕ → Seen → Bool
is_wanted address line seen =
    if is_ban (effect_in line) then is_here address (channel_in line) seen
    else is_wanted_of address line (member_in (channel_in line) (target_in line) seen.sight.channels)

-- ---- a look: a call of `later` with the text ADDRESS LINE

abbrev pub look_text : List ℕ → List ℕ → List ℕ
look_text address line = address ++ codes " " ++ line

-- A look after so many seconds. There is none if `later` would read another line in the text, as with an address that has
-- a space.
abbrev pub look_after : ℕ → List ℕ → List ℕ → Option Action
look_after seconds line address =
    if bytes_eq (after_word (look_text address line)) line
    then Some (Utimer (record { interval = seconds; count = 1; proc = codes "later"; text = look_text address line }))
    else None

-- the look of the bot that has this many before it
abbrev pub look_of : ℕ → List ℕ → List ℕ → Option Action
look_of turn line address = look_after (turn * LOOK_SECONDS) line address

-- a line at once, if there is no look in its place
abbrev pub or_at_once : List ℕ → Option Action → Action
or_at_once line look = unwrap_or look (put mode_queue line)

-- nobody looks for a nick that is not there
abbrev pub look_if : ℕ → List ℕ → Option (List ℕ) → Option Action
look_if turn line None = None
look_if turn line (Some address) = look_of turn line address

-- the address that belongs to a nick: of the caller who joins, and whom the bot does not see on the channel yet, or of
-- the member of this nick
abbrev pub address_now : Call → Seen → List ℕ → Option (List ℕ)
address_now call seen nick =
    if is_join call.kind then Some (caller_address call)
    else option_map address_of (member_in (channel_of call) nick seen.sight.channels)

abbrev pub look_at : ℕ → Call → Seen → List ℕ → Option Action
look_at turn call seen line = look_if turn line (address_now call seen (target_in line))

-- the look for an action: only for a line to the server
abbrev pub look_for : ℕ → Call → Seen → Action → Option Action
look_for turn call seen (Put wish) = look_at turn call seen wish.line
look_for turn call seen (Ask change) = None
look_for turn call seen (Timer wish) = None
look_for turn call seen (Utimer wish) = None
look_for turn call seen (KillTimer name) = None
look_for turn call seen (SendBot wish) = None

-- ---- later

-- the line of a look
abbrev pub line_of : Call → List ℕ
line_of call = after_word (timer_text call)

-- whether a call is for a timer, and the bot is an operator of the channel of its line
abbrev pub may_look : Call → Seen → Bool
may_look call seen = is_timer call.kind && is_op_of (channel_in (line_of call)) seen

-- what `later` requests, for a timer's text of an address and a line: the line, if the bot is an operator of its channel
-- and the member of this address is there and does not show the line's effect
abbrev pub asked_by_later : Call → Seen → List Action
asked_by_later call seen =
    if may_look call seen && is_wanted (first_word (timer_text call)) (line_of call) seen
    then put mode_queue (line_of call) ∷ []
    else []
