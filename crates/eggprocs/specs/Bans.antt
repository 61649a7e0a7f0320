-- What `ban`, `unban` and `lift` request.
use Rattle.std.specs.Prelude.{ℕ, nat_lt, nat_le, ◌==◌, ◌*◌, ◌&&◌, List, [], ◌∷◌, ◌++◌, take, min, length, Bool, true, false, if◌then◌else◌, codes, Option, Some, None}
use Rattle.std.specs.List.{cons_option}
use Rattle.bytetext.specs.declared.moment.TheConstants.{MOMENTS_END}
use Rattle.recordtext.specs.Words.{number_below}
use Rattle.userfile.specs.declared.edit.Edit.{Edit}
use Rattle.userfile.specs.declared.edit.Edit.TheVariants.{AddBan, DelBan}
use Rattle.userfile.specs.declared.limits.TheConstants.{MAX_COMMENT}
use Rattle.userfile.specs.Persons.{expires_at}
use Rattle.userfile.specs.Shapes.{is_hostmask}
use Rattle.bytetext.specs.Words.{first_word, after_word}
use Rattle.outqueue.specs.declared.queue.Queue.TheVariants.{Mode as mode_queue}
use Rattle.procs.specs.declared.action.Action.{Action}
use Rattle.procs.specs.declared.action.Action.TheVariants.{Ask, Timer, Utimer}
use Rattle.procs.specs.declared.action.TimerWish.{TimerWish}
use Rattle.procs.specs.declared.call.Call.{Call}
use Rattle.procs.specs.Seen.{Seen}
use Rattle.eggprocs.specs.declared.bans.TheConstants.{UTIMER_MINUTES}
use Rattle.eggprocs.specs.Args.{handle_of, channel_of, said_of, timer_text, has_word}
use Rattle.eggprocs.specs.Askers.{in_callers_name}
use Rattle.eggprocs.specs.Channel.{put}
use Rattle.eggprocs.specs.Ends.{holds_ended}
use Rattle.eggprocs.specs.Lines.{mode}
use Rattle.eggprocs.specs.Rights.{is_timer, is_op_of}

-- the mask that a text begins with
abbrev pub mask_of : Call → List ℕ
mask_of call = first_word (said_of call)

-- a number of minutes, if a text begins with one
abbrev pub minutes_in : List ℕ → Option ℕ
minutes_in text = number_below 4294967296 (first_word text)

-- a text, cut to the length of a ban's comment
abbrev pub short : List ℕ → List ℕ
short text = take (min (length text) MAX_COMMENT) text

-- the comment: what follows the minutes, if there are any
abbrev pub comment_after : Option ℕ → List ℕ → List ℕ
comment_after None text = short text
comment_after (Some minutes) text = short (after_word text)

-- when a ban ends: this number of minutes after the second; never if either is not known
abbrev pub end_of : Option ℕ → Option ℕ → ℕ
end_of None minutes = 0
end_of (Some second) None = 0
end_of (Some second) (Some minutes) = if nat_lt second MOMENTS_END then expires_at second minutes else 0

-- the ban that a command means: mask, minutes and comment
abbrev pub ban_in : Call → Option ℕ → List ℕ → Edit
ban_in call second rest =
    AddBan (channel_of call) (mask_of call) (handle_of call) (end_of second (minutes_in rest)) (comment_after (minutes_in rest) rest)

abbrev pub ban_of : Call → Seen → Edit
ban_of call seen = ban_in call seen.second (after_word (said_of call))

-- ---- its end on the channel

-- a call of `lift` with the channel and the mask, after this interval
abbrev pub lift_wish : Call → ℕ → TimerWish
lift_wish call interval =
    record { interval = interval; count = 1; proc = codes "lift"; text = channel_of call ++ codes " " ++ mask_of call }

-- in seconds, or in minutes if there are more than a utimer counts
abbrev pub lift_after : Call → ℕ → Action
lift_after call minutes =
    if nat_le minutes UTIMER_MINUTES then Utimer (lift_wish call (minutes * 60)) else Timer (lift_wish call minutes)

abbrev pub lift_of : Call → Option ℕ → Option Action
lift_of call None = None
lift_of call (Some minutes) = if minutes == 0 then None else Some (lift_after call minutes)

-- two actions, and a third if there is one
abbrev pub and_then : Action → Action → Option Action → List Action
and_then first second None = first ∷ second ∷ []
and_then first second (Some third) = first ∷ second ∷ third ∷ []

-- ---- what is requested

-- a mode on the channel with the command's mask
abbrev pub mode_of : List ℕ → Call → Action
mode_of sign call = put mode_queue (mode (channel_of call) sign (mask_of call))

-- the request of an edit, in the caller's name
abbrev pub ask_of : Call → Seen → Edit → Action
ask_of call seen edit = Ask (in_callers_name call seen edit)

-- the deletion of the command's ban
abbrev pub deletion : Call → Edit
deletion call = DelBan (channel_of call) (mask_of call)

-- the deletion first, if the records hold such a ban that has ended: they take no second ban of a mask
abbrev pub delete_first : Bool → Call → Seen → Option Action
delete_first false call seen = None
delete_first true call seen = Some (ask_of call seen (deletion call))

abbrev pub deleted_first : Call → Seen → Option Action
deleted_first call seen = delete_first (holds_ended (channel_of call) (mask_of call) seen) call seen

-- what `ban` requests: the ban in the userfile, after the deletion of one that has ended, the ban on the channel, and
-- later its end there
abbrev pub asked_by_ban : Bool → Call → Seen → List Action
asked_by_ban may call seen =
    if may && is_hostmask (mask_of call)
    then cons_option (deleted_first call seen)
    (and_then (ask_of call seen (ban_of call seen)) (mode_of (codes "+b") call) (lift_of call (minutes_in (after_word (said_of call)))))
    else []

-- what `unban` requests: the end of the ban in the userfile and on the channel
abbrev pub asked_by_unban : Bool → Call → Seen → List Action
asked_by_unban may call seen =
    if may && is_hostmask (mask_of call)
    then ask_of call seen (deletion call) ∷ mode_of (codes "-b") call ∷ []
    else []

-- what `lift` requests, for a timer's text of a channel and a mask: the end of the ban on the channel
abbrev pub asked_by_lift : Call → Seen → List Action
asked_by_lift call seen =
    if is_timer call.kind && (is_op_of (first_word (timer_text call)) seen && has_word (after_word (timer_text call)))
    then put mode_queue (mode (first_word (timer_text call)) (codes "-b") (first_word (after_word (timer_text call)))) ∷ []
    else []
