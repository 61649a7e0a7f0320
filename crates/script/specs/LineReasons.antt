-- Why a line breaks a rule by itself.
use Rattle.std.specs.Prelude.{ℕ, ◌==◌, Bool, true, false, List, [], ◌∷◌, Option, None, option_map, if◌then◌else◌, unwrap_or}
use Rattle.recordtext.specs.Words.{words_of}
use Rattle.script.specs.declared.reason.Reason.{Reason}
use Rattle.script.specs.declared.reason.Reason.TheVariants as reason
use Rattle.script.specs.Spacing.{ends_reason, spacing_reason}
use Rattle.script.specs.Doubts.{doubt_of}

-- whether the reason is a wrong number of words
abbrev pub is_form : Reason → Bool
is_form (reason.Form verb) = true
is_form (reason.ChangeForm word) = true
is_form reason.AskerForm = true
is_form reason.TooLong = false
is_form reason.NoCommand = false
is_form reason.CarriageReturn = false
is_form reason.ByteOrderMark = false
is_form reason.SpaceBefore = false
is_form reason.SpaceAfter = false
is_form reason.TwoSpaces = false
is_form reason.Tab = false
is_form reason.Unknown = false
is_form reason.Leaves = false
is_form reason.Zone = false
is_form reason.Bot = false
is_form reason.Packet = false
is_form reason.Seconds = false
is_form reason.Change = false
is_form reason.Flags = false
is_form reason.ChannelFlags = false
is_form reason.Expiry = false
is_form reason.Mark = false
is_form reason.NamedChange = false
is_form reason.NamedFlags = false
is_form reason.NamedExpiry = false
is_form reason.NamedMark = false
is_form reason.Kind = false
is_form reason.LeavesFirst = false
is_form reason.LeavesAgain = false
is_form reason.ZoneLate = false

-- what to report of a line that is wrong for this reason: its ends or its spaces come first
abbrev pub refined : List ℕ → List (List ℕ) → Reason → Reason
refined line words why =
    unwrap_or (if is_form why then spacing_reason line words else ends_reason line) why

abbrev pub reason_by_words : List ℕ → List (List ℕ) → Option Reason
reason_by_words line words = option_map (refined line words) (doubt_of words)

-- a line says nothing if it is empty or begins with #
abbrev pub line_reason : List ℕ → Option Reason
line_reason [] = None
line_reason (b ∷ bs) = if b == 35 then None else reason_by_words (b ∷ bs) (words_of (b ∷ bs))
