-- What procs read of a call and of what they see, and the actions that they ask for.
use Rattle.std.specs.Prelude.{ℕ, ◌+◌, nat_lt, Bool, ◌||◌, List, [], ◌∷◌, slice_get, unwrap_or, if◌then◌else◌, codes, Option, Some, None}
use Rattle.std.specs.List.{concat}
use Rattle.bytetext.specs.declared.moment.TheConstants.{MOMENTS_END}
use Rattle.flagexpr.specs.Letters.{has_letter}
use Rattle.userfile.specs.declared.edit.Edit.TheVariants.{AddBan}
use Rattle.userfile.specs.Changes.{by_nobody}
use Rattle.userfile.specs.declared.flags.PersonFlags.{PersonFlags}
use Rattle.userfile.specs.Persons.{flags_of}
use Rattle.chanstate.specs.Views.{member_in, is_op as is_op_there}
use Rattle.outqueue.specs.declared.queue.Queue.{Queue}
use Rattle.outqueue.specs.declared.queue.Queue.TheVariants.{Mode}
use Rattle.procs.specs.declared.action.Action.{Action}
use Rattle.procs.specs.declared.action.Action.TheVariants.{Ask, Utimer, Put}
use Rattle.procs.specs.declared.call.Call.{Call}
use Rattle.procs.specs.Seen.{Seen}

-- an argument of a call, or the empty text if it has none at this place
abbrev pub arg_at : Call → ℕ → List ℕ
arg_at call place = unwrap_or (slice_get call.args place) []

-- the person who does or says something, and the channel
abbrev pub nick_of : Call → List ℕ
nick_of call = arg_at call 0

abbrev pub handle_of : Call → List ℕ
handle_of call = arg_at call 2

abbrev pub channel_of : Call → List ℕ
channel_of call = arg_at call 3

-- any nick, and just this user and host
abbrev pub mask_of : Call → List ℕ
mask_of call = concat (codes "*!" ∷ arg_at call 1 ∷ [])

-- whether the flag o is among a person's flags, everywhere or on the channel
abbrev pub has_o_in : PersonFlags → Bool
has_o_in flags = has_letter flags.global 111 || has_letter flags.chan 111

abbrev pub has_o : Call → Seen → Bool
has_o call seen = has_o_in (flags_of seen.sight.records.users (handle_of call) (channel_of call))

-- whether that person has op on the channel
abbrev pub is_op : Call → Seen → Bool
is_op call seen = is_op_there (member_in (channel_of call) (nick_of call) seen.sight.channels)

-- the second that comes this many seconds after the clock's, if the clock shows one before the year 3000; else none
abbrev pub second_after : ℕ → Option ℕ → Option ℕ
second_after seconds None = None
second_after seconds (Some second) = if nat_lt second MOMENTS_END then Some (second + seconds) else None

-- a line of these parts for the server
abbrev pub put : Queue → List (List ℕ) → Action
put queue parts = Put (record { queue = queue; line = concat parts })

-- the same this many seconds later: a call of `put_later` with the line
abbrev pub put_after : ℕ → List (List ℕ) → Action
put_after seconds parts = Utimer (record { interval = seconds; count = 1; proc = codes "put_later"; text = concat parts })

-- and what `put_later` asks for: the line that is its timer's text
abbrev pub put_later : Call → List Action
put_later call = put Mode (arg_at call 0 ∷ []) ∷ []

-- a ban in the records that ends at this second, which the bot asks for in nobody's name
abbrev pub ban : List ℕ → List ℕ → ℕ → List ℕ → Action
ban channel mask expires comment = Ask (by_nobody (AddBan channel mask (codes "egg") expires comment))
