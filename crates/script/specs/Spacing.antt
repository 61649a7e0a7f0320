-- The ends of a line, and the spaces between its words.
use Rattle.std.specs.Prelude.{ℕ, ◌-◌, ◌==◌, ◌&&◌, not, Bool, List, [], ◌∷◌, length, slice_index, Option, None, Some, if◌then◌else◌}
use Rattle.std.specs.List.{list_any}
use Rattle.recordtext.specs.Words.{is_empty}
use Rattle.script.specs.declared.reason.Reason.{Reason}
use Rattle.script.specs.declared.reason.Reason.TheVariants.{CarriageReturn, ByteOrderMark, SpaceAfter, TwoSpaces, Tab}

-- a line's last byte
abbrev pub ends_in : ℕ → List ℕ → Bool
ends_in byte line = not (is_empty line) && slice_index line (length line - 1) == byte

-- an invisible mark that some editors put before the first line
abbrev pub has_mark : List ℕ → Bool
has_mark line = slice_index line 0 == 239 && (slice_index line 1 == 187 && slice_index line 2 == 191)

abbrev pub is_tab : ℕ → Bool
is_tab byte = byte == 9

-- a carriage return at the end, or a mark in front
abbrev pub ends_reason : List ℕ → Option Reason
ends_reason line =
    if ends_in 13 line then Some CarriageReturn
    else if has_mark line then Some ByteOrderMark
    else None

-- what is wrong with the spacing of a line that has the wrong number of words
abbrev pub spacing_reason : List ℕ → List (List ℕ) → Option Reason
spacing_reason line words =
    if ends_in 13 line then Some CarriageReturn
    else if has_mark line then Some ByteOrderMark
    else if ends_in 32 line then Some SpaceAfter
    else if list_any is_empty words then Some TwoSpaces
    else if list_any is_tab line then Some Tab
    else None

-- A word that is none of those expected: an empty word is a space too many, and a word with a tab is two words.
abbrev pub misread : Reason → Reason → List ℕ → Reason
misread gap reason word = if is_empty word then gap else if list_any is_tab word then Tab else reason

-- what is wrong if an empty word comes before these words: if none follow, it is a space at the end of the line
abbrev pub gap_before : List (List ℕ) → Reason
gap_before [] = SpaceAfter
gap_before (word ∷ words) = TwoSpaces
