-- Modes of one channel that wait, and go together in one MODE.
use Rattle.std.specs.Prelude.{◌≡◌, ℕ, zero, suc, ◌+◌, ◌-◌, ◌≤◌, ◌==◌, max, nat_lt, nat_le, Bool, true, not, ◌||◌, ◌&&◌, if◌then◌else◌}
use Rattle.std.specs.Prelude.{List, [], ◌∷◌, ◌++◌, length, map, codes, slice_index, slice_index_or, Option, Some, None, bytes_eq}
use Rattle.std.specs.List.{concat, list_any, position_or_len, remove}
use Rattle.bytetext.specs.Words.{first_word, after_word}
use Rattle.rfccase.specs.Casemapping.{is_same}
use Rattle.outqueue.specs.declared.limits.TheConstants.{AHEAD, COST, MAX_AT_ONCE, MAX_JOINED}
use Rattle.outqueue.specs.Sending.{Sending, gone}
use Rattle.outqueue.specs.Shares.{is_space}

-- ---- lines that set or clear one mode

-- of `MODE CHANNEL MODE ARGUMENT`: the channel, the mode with its sign, and the argument
abbrev pub channel_of : List ℕ → List ℕ
channel_of line = first_word (after_word line)

abbrev pub mode_of : List ℕ → List ℕ
mode_of line = first_word (after_word (after_word line))

abbrev pub argument_of : List ℕ → List ℕ
argument_of line = after_word (after_word (after_word line))

-- +b, -b, +o, -o, +v or -v: these modes have an argument on each server
abbrev pub is_mode : List ℕ → Bool
is_mode mode =
    length mode == 2 && ((slice_index mode 0 == 43 || slice_index mode 0 == 45)
    && (slice_index mode 1 == 98 || (slice_index mode 1 == 111 || slice_index mode 1 == 118)))

-- one word that does not begin with a colon
abbrev pub is_argument : List ℕ → Bool
is_argument argument = nat_le 1 (length argument) && (not (slice_index argument 0 == 58) && not (list_any is_space argument))

-- whether a line sets or clears one mode with its argument, and does nothing else
unfoldable pub is_one_mode : List ℕ → Bool
is_one_mode line = bytes_eq (first_word line) (codes "MODE") && (is_mode (mode_of line) && is_argument (argument_of line))

-- ---- which lines go together

-- whether a line is about a channel; names are compared by RFC 1459, which takes the most names for the same
unfoldable pub is_about : List ℕ → List ℕ → Bool
is_about channel line = is_same (channel_of line) channel

-- the first line about a channel, or the empty line if there is none
abbrev pub place_about : List ℕ → List (List ℕ) → ℕ
place_about channel lines = position_or_len (is_about channel) lines

abbrev pub next_about : List ℕ → List (List ℕ) → List ℕ
next_about channel lines = slice_index_or lines (place_about channel lines) []

abbrev pub others : List ℕ → List (List ℕ) → List (List ℕ)
others channel lines = remove lines (place_about channel lines)

-- how many bytes a line adds to a MODE: its mode, a space and its argument
abbrev pub added_by : List ℕ → ℕ
added_by line = length (argument_of line) + 3

-- how many bytes a MODE with this line alone has room for
abbrev pub room_after : List ℕ → ℕ
room_after line = MAX_JOINED - 9 - length (channel_of line) - length (argument_of line)

-- whether a line goes along with modes of a channel that leave so much room; its channel is spelled the same
unfoldable pub goes_along : List ℕ → ℕ → List ℕ → Bool
goes_along channel room line =
    is_one_mode line && (bytes_eq (channel_of line) channel && nat_le (added_by line) room)

-- Of the lines that wait, those that go along, at most `most`: the first line about the channel, if it goes along, and
-- then the next ones. The first line about the channel that does not go along ends them.
unfoldable pub along : ℕ → List ℕ → ℕ → List (List ℕ) → List (List ℕ)
along zero channel room lines = []
along (suc most) channel room lines =
    if goes_along channel room (next_about channel lines)
    then next_about channel lines
    ∷ along most channel (room - added_by (next_about channel lines)) (others channel lines)
    else []

-- the lines that are left then, in order
unfoldable pub left : ℕ → List ℕ → ℕ → List (List ℕ) → List (List ℕ)
left zero channel room lines = lines
left (suc most) channel room lines =
    if goes_along channel room (next_about channel lines)
    then left most channel (room - added_by (next_about channel lines)) (others channel lines)
    else lines

-- the first line and those that go along with it, at most `most` in all; and the lines that are left
abbrev pub group : ℕ → List (List ℕ) → List (List ℕ)
group most [] = []
group most (line ∷ lines) =
    line ∷ (if is_one_mode line then along (most - 1) (channel_of line) (room_after line) lines else [])

abbrev pub ungrouped : ℕ → List (List ℕ) → List (List ℕ)
ungrouped most [] = []
ungrouped most (line ∷ lines) =
    if is_one_mode line then left (most - 1) (channel_of line) (room_after line) lines else lines

-- ---- the line that they make

-- an argument after a space
abbrev pub spaced_argument : List ℕ → List ℕ
spaced_argument line = 32 ∷ argument_of line

-- A line that goes alone stays as it is. Lines that go together make one MODE of their channel: their modes, and then
-- their arguments, both in the order of the lines.
abbrev pub joined : List (List ℕ) → List ℕ
joined [] = []
joined (line ∷ []) = line
joined (line ∷ (next ∷ lines)) =
    codes "MODE " ++ (channel_of line ++ (32 ∷ (concat (map mode_of (line ∷ (next ∷ lines)))
    ++ concat (map spaced_argument (line ∷ (next ∷ lines))))))

-- ---- what goes at a moment

-- the lines that go next: the first answer to PING; else the first line of the mode queue and those that go along with
-- it; else the first line of a lower queue
abbrev pub first_group : ℕ → List (List ℕ) → List (List ℕ) → List (List ℕ) → List (List ℕ)
first_group most (line ∷ prompt) mode lower = line ∷ []
first_group most [] (line ∷ mode) lower = group most (line ∷ mode)
first_group most [] [] (line ∷ lower) = line ∷ []
first_group most [] [] [] = []

-- what waits when they have gone
abbrev pub without_group : ℕ → Sending → ℕ → List (List ℕ) → List (List ℕ) → Sending
without_group most q timer (line ∷ prompt) mode = gone 1 q timer
without_group most q timer [] (line ∷ mode) = record q { mode = ungrouped most (line ∷ mode); timer = timer }
without_group most q timer [] [] = gone 1 q timer

-- the lines that go next at a moment; none if none may go
unfoldable pub next_group : ℕ → Sending → ℕ → List (List ℕ)
next_group most q now =
    if nat_lt (max q.timer now) (now + AHEAD) then first_group most q.prompt q.mode (q.server ++ q.help) else []

-- what stays then; lines that go together cost as much as one
abbrev pub after_next : ℕ → Sending → ℕ → List (List ℕ) → Sending
after_next most q now [] = record q { timer = max q.timer now }
after_next most q now (line ∷ lines) = without_group most q (max q.timer now + COST) q.prompt q.mode

unfoldable pub after_group : ℕ → Sending → ℕ → Sending
after_group most q now = after_next most q now (next_group most q now)

-- the lines that go in `n` turns, each turn's together
abbrev pub with_group : List (List ℕ) → List (List (List ℕ)) → List (List (List ℕ))
with_group [] later = later
with_group (line ∷ lines) later = (line ∷ lines) ∷ later

unfoldable pub groups_in : ℕ → ℕ → Sending → ℕ → List (List (List ℕ))
groups_in zero most q now = []
groups_in (suc n) most q now = with_group (next_group most q now) (groups_in n most (after_group most q now) now)

unfoldable pub after_turns : ℕ → ℕ → Sending → ℕ → Sending
after_turns zero most q now = q
after_turns (suc n) most q now = after_turns n most (after_group most q now) now

-- all that go at a moment, the lines that they make, and what stays
abbrev pub groups : ℕ → Sending → ℕ → List (List (List ℕ))
groups most q now = groups_in MAX_AT_ONCE most q now

abbrev pub sent_joined : ℕ → Sending → ℕ → List (List ℕ)
sent_joined most q now = map joined (groups most q now)

abbrev pub after_joined : ℕ → Sending → ℕ → Sending
after_joined most q now = after_turns MAX_AT_ONCE most q now

-- the line that some lines make, if there are any
abbrev pub line_of : List (List ℕ) → Option (List ℕ)
line_of [] = None
line_of (line ∷ lines) = Some (joined (line ∷ lines))

-- ---- laws

-- these lines set or clear one mode each, all of this channel
abbrev pub AreModesOf : List ℕ → List (List ℕ) → Type 0
AreModesOf channel [] = Unit {0}
AreModesOf channel (line ∷ lines) = (is_one_mode line ≡ true) × (channel_of line ≡ channel) × AreModesOf channel lines

-- several lines go together only if they are modes of one channel, and no more than `most`
abbrev pub GoTogether : ℕ → List (List ℕ) → Type 0
GoTogether most [] = Unit {0}
GoTogether most (line ∷ []) = Unit {0}
GoTogether most (line ∷ (next ∷ lines)) =
    (length (line ∷ (next ∷ lines)) ≤ most) × AreModesOf (channel_of line) (line ∷ (next ∷ lines))

-- the lines of some groups, in order
abbrev pub lines_of : List (List (List ℕ)) → List (List ℕ)
lines_of [] = []
lines_of (g ∷ later) = g ++ lines_of later

-- what goes at some moments, one after another
abbrev pub groups_over : ℕ → Sending → List ℕ → List (List (List ℕ))
groups_over most q [] = []
groups_over most q (now ∷ moments) = groups most q now ++ groups_over most (after_joined most q now) moments
