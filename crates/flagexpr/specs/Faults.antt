-- Which texts are rejected, and why (our own choice throughout).
use Rattle.std.specs.Prelude.{ℕ, ◌==◌, nat_lt, Bool, false, ◌&&◌, ◌||◌, List, [], ◌∷◌, codes, count_by, Option, Some, None, if◌then◌else◌}
use Rattle.std.specs.List.{list_all, list_any}
use Rattle.std.specs.Char.{is_ascii_alphabetic}
use Rattle.flagexpr.specs.declared.fault.FlagFault.{FlagFault}
use Rattle.flagexpr.specs.declared.fault.FlagFault.TheVariants.{BadLetter, MixedJoin, TooManyParts}

-- the code that transcripts print
abbrev pub code_of : FlagFault → List ℕ
code_of BadLetter = codes "F1"
code_of MixedJoin = codes "F2"
code_of TooManyParts = codes "F3"

-- whether a text is this one byte
abbrev pub is_lone : ℕ → List ℕ → Bool
is_lone byte [] = false
is_lone byte (only ∷ []) = only == byte
is_lone byte (first ∷ second ∷ more) = false

-- flags are only letters, or `-` alone
unfoldable pub flags_fault : List ℕ → Option FlagFault
flags_fault text = if is_lone 45 text || list_all is_ascii_alphabetic text then None else Some BadLetter

-- `+` or `-`
abbrev pub is_sign : ℕ → Bool
is_sign byte = byte == 43 || byte == 45

-- `|` or `&`
abbrev pub is_join : ℕ → Bool
is_join byte = byte == 124 || byte == 38

-- a byte that may stand in an expression other than `*` alone
abbrev pub has_place : ℕ → Bool
has_place byte = is_ascii_alphabetic byte || is_sign byte || is_join byte

-- an expression has letters, signs and joins, one kind of join, and at most two of them
unfoldable pub expression_fault : List ℕ → Option FlagFault
expression_fault text =
    if is_lone 42 text then None
    else (if list_all has_place text
    then (if list_any (λ byte. byte == 124) text && list_any (λ byte. byte == 38) text then Some MixedJoin
    else (if nat_lt 2 (count_by is_join text) then Some TooManyParts else None))
    else Some BadLetter)
