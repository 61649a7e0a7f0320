-- What `keepmodes` requests: it undoes the change of a mode by which it is called. So a bind with the mask `#egg -n` keeps
-- the mode n on #egg. As `protectops`, it leaves alone what the bot itself, a master or another bot does.
use Rattle.std.specs.Prelude.{ℕ, ◌==◌, ◌&&◌, not, false, List, [], ◌∷◌, length, slice_index, Bool, if◌then◌else◌, codes, Option, Some, None}
use Rattle.std.specs.Str.{bytes_eq}
use Rattle.chanstate.specs.declared.support.Support.{Support}
use Rattle.chanstate.specs.Announced.{is_in, takes_argument}
use Rattle.outqueue.specs.declared.queue.Queue.TheVariants.{Mode as mode_queue}
use Rattle.procs.specs.declared.action.Action.{Action}
use Rattle.procs.specs.declared.call.Call.{Call}
use Rattle.procs.specs.Seen.{Seen}
use Rattle.eggprocs.specs.Args.{channel_of, mode_change, mode_argument}
use Rattle.eggprocs.specs.Channel.{put}
use Rattle.eggprocs.specs.Keeping.{is_change_by_untrusted}
use Rattle.eggprocs.specs.Lines.{mode, plain_mode}

-- the other sign: 43 is '+', 45 is '-'
abbrev pub other_sign : ℕ → ℕ
other_sign sign = if sign == 43 then 45 else 43

-- Whether a change is a sign and the letter of a mode, and its reverse has no argument, by what the server announces. So a
-- mode that has an argument only when it is set is cleared again, and not set again.
abbrev pub has_plain_reverse : Support → List ℕ → Bool
has_plain_reverse support change =
    (length change == 2) && not (takes_argument support (other_sign (slice_index change 0) == 43) (slice_index change 1))

-- the change that undoes such a change
abbrev pub reverse_of : List ℕ → List ℕ
reverse_of change = other_sign (slice_index change 0) ∷ slice_index change 1 ∷ []

abbrev pub plain_reverse : Support → List ℕ → Option (List ℕ)
plain_reverse support change = if has_plain_reverse support change then Some (reverse_of change) else None

-- whether a change sets the key of a channel, the mode k (RFC 2812 section 3.2.3), and the key is named again to clear it;
-- 107 is 'k'
abbrev pub sets_key : Support → List ℕ → Bool
sets_key support change = bytes_eq change (codes "+k") && (takes_argument support false 107 && not (is_in 107 support.ranks))

-- the end of the key that a change sets
abbrev pub key_undone : Bool → Call → List Action
key_undone key call = if key then put mode_queue (mode (channel_of call) (codes "-k") (mode_argument call)) ∷ [] else []

abbrev pub undone : Bool → Call → Option (List ℕ) → List Action
undone key call None = key_undone key call
undone key call (Some change) = put mode_queue (plain_mode (channel_of call) change) ∷ []

-- what `keepmodes` requests
abbrev pub asked_by_keepmodes : Call → Seen → List Action
asked_by_keepmodes call seen =
    if is_change_by_untrusted (mode_change call) call seen
    then undone (sets_key seen.sight.channels.support (mode_change call)) call (plain_reverse seen.sight.channels.support (mode_change call))
    else []
