-- The arguments that a proc is called with.
use Rattle.std.specs.Prelude.{ℕ, ◌-◌, ◌==◌, not, Bool, List, [], length, slice_get, unwrap_or, if◌then◌else◌}
use Rattle.bytetext.specs.Words.{first_word}
use Rattle.procs.specs.declared.call.Call.{Call}

-- the argument at a place, or the empty text if there is none
abbrev pub arg_at : List (List ℕ) → ℕ → List ℕ
arg_at args place = unwrap_or (slice_get args place) []

-- the last argument, or the empty text if there is none
abbrev pub last_of : List (List ℕ) → List ℕ
last_of args = unwrap_or (slice_get args (length args - 1)) []

-- the caller, who says or does something: the nick, and the handle
abbrev pub nick_of : Call → List ℕ
nick_of call = arg_at call.args 0

abbrev pub handle_of : Call → List ℕ
handle_of call = arg_at call.args 2

-- the channel on which something is said or done, and what is said there after the command's word
abbrev pub channel_of : Call → List ℕ
channel_of call = arg_at call.args 3

abbrev pub said_of : Call → List ℕ
said_of call = arg_at call.args 4

-- a change of mode as its sign and letter, such as +o, and its argument: a nick or a mask
abbrev pub mode_change : Call → List ℕ
mode_change call = arg_at call.args 4

abbrev pub mode_argument : Call → List ℕ
mode_argument call = arg_at call.args 5

-- a timer's text
abbrev pub timer_text : Call → List ℕ
timer_text call = arg_at call.args 0

-- what the caller says to the bot after the command's word
abbrev pub told_of : Call → List ℕ
told_of call = arg_at call.args 3

-- whether a text begins with a word
abbrev pub has_word : List ℕ → Bool
has_word text = not (length (first_word text) == 0)

-- a text, or another one if it is empty
abbrev pub or_else : List ℕ → List ℕ → List ℕ
or_else text other = if length text == 0 then other else text
