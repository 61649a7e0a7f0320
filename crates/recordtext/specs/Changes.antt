-- The changes that words spell: an edit, and perhaps who asks for it.
use Rattle.std.specs.Prelude.{ℕ, List, [], ◌∷◌, Option, None, Some, option_map, if◌then◌else◌, codes}
use Rattle.std.specs.Str.{bytes_eq}
use Rattle.rfccase.specs.declared.casemappings.Casemapping.{Casemapping}
use Rattle.rfccase.specs.declared.casemappings.Casemapping.TheVariants.{Ascii, StrictRfc1459, Rfc1459}
use Rattle.userfile.specs.declared.edit.Edit.{Edit}
use Rattle.userfile.specs.declared.change.Change.{Change}
use Rattle.userfile.specs.Changes.{by_nobody, by_person}
use Rattle.recordtext.specs.Words.{is_empty, words_of}
use Rattle.recordtext.specs.Edits.{edit_named, edit_by_words}

-- an edit in the name of a person
abbrev pub in_name : List ℕ → Casemapping → Edit → Change
in_name person casemapping edit = by_person (record { person = person; casemapping = casemapping }) edit

-- a casemapping, by the name that a server announces it by
abbrev pub mapping_of : List ℕ → Option Casemapping
mapping_of word =
    if bytes_eq word (codes "ascii") then Some Ascii
    else if bytes_eq word (codes "strict-rfc1459") then Some StrictRfc1459
    else if bytes_eq word (codes "rfc1459") then Some Rfc1459
    else None

-- the edit after a person and perhaps a casemapping: without one, the person is compared by rfc1459
abbrev pub asked_in : List ℕ → Option Casemapping → List ℕ → List (List ℕ) → Option Change
asked_in person (Some casemapping) word words = option_map (in_name person casemapping) (edit_by_words words)
asked_in person None word words = option_map (in_name person Rfc1459) (edit_named word words)

abbrev pub asked_as : List ℕ → List (List ℕ) → Option Change
asked_as person (word ∷ words) = asked_in person (mapping_of word) word words
asked_as person [] = None

-- as NICK!USER@HOST EDIT, or as NICK!USER@HOST CASEMAPPING EDIT
abbrev pub asked_by : List (List ℕ) → Option Change
asked_by (person ∷ words) = if is_empty person then None else asked_as person words
asked_by [] = None

abbrev pub change_named : List ℕ → List (List ℕ) → Option Change
change_named name words =
    if bytes_eq name (codes "as") then asked_by words else option_map by_nobody (edit_named name words)

-- the change that words spell, the first of which is the name
abbrev pub change_by_words : List (List ℕ) → Option Change
change_by_words [] = None
change_by_words (name ∷ words) = change_named name words

abbrev pub change_of : List ℕ → Option Change
change_of text = change_by_words (words_of text)
