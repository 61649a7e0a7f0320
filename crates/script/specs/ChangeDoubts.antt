-- What is wrong with the words of a change.
use Rattle.std.specs.Prelude.{ℕ, ◌&&◌, ◌==◌, List, [], ◌∷◌, length, Option, None, Some, is_some, option_map, if◌then◌else◌, codes}
use Rattle.std.specs.Str.{bytes_eq}
use Rattle.flagexpr.specs.Faults.{flags_fault}
use Rattle.recordtext.specs.Words.{is_empty, number_below}
use Rattle.recordtext.specs.Changes.{mapping_of}
use Rattle.script.specs.declared.reason.Reason.{Reason}
use Rattle.script.specs.declared.reason.Reason.TheVariants.{SpaceAfter, TwoSpaces, Change, ChangeForm, Flags, ChannelFlags, Expiry, Mark}
use Rattle.script.specs.declared.reason.Reason.TheVariants.{AskerForm}
use Rattle.script.specs.Askers.{in_name}
use Rattle.script.specs.declared.change_word.ChangeWord.{ChangeWord}
use Rattle.script.specs.declared.change_word.ChangeWord.TheVariants.{AddUser, DelUser, AddHost, DelHost, DelBan, Global, Bot, Chan, AddBan, Info, Sticky}
use Rattle.script.specs.Vocabulary.{change_word_named}
use Rattle.script.specs.Spacing.{misread, gap_before}

-- the first of two reasons, if there is one
abbrev pub first_of : Option Reason → Option Reason → Option Reason
first_of (Some reason) other = Some reason
first_of None other = other

-- a reason, unless the word was found
abbrev pub unless_found : {T : Type 0} → Option T → Reason → Option Reason
unless_found (Some value) reason = None
unless_found None reason = Some reason

-- a word that may be anything but empty
abbrev pub gap_doubt : Reason → List ℕ → Option Reason
gap_doubt gap word = if is_empty word then Some gap else None

-- a last word that takes the rest of the line, and is not empty
abbrev pub text_doubt : Reason → List ℕ → List (List ℕ) → Option Reason
text_doubt reason first rest = if is_empty first && length rest == 0 then Some reason else None

-- flags, the last word
abbrev pub flags_doubt : Reason → List ℕ → Option Reason
flags_doubt reason word =
    if is_empty word then Some SpaceAfter
    else if is_some (flags_fault word) then Some (misread SpaceAfter reason word)
    else None

-- an expiry
abbrev pub expiry_doubt : Reason → List ℕ → Option Reason
expiry_doubt gap e = unless_found (number_below 18446744073709551616 e) (misread gap Expiry e)

-- whether a ban is sticky: 1 or 0, the last word
abbrev pub mark_doubt : List ℕ → Option Reason
mark_doubt n = unless_found (number_below 2 n) (misread SpaceAfter Mark n)

-- a comment, and likewise an info, is the rest of the line; it may be left out, but not be empty
abbrev pub comment_doubt : ChangeWord → List (List ℕ) → Option Reason
comment_doubt word [] = None
comment_doubt word (first ∷ rest) = text_doubt (ChangeForm word) first rest

-- two words that others follow; neither may be empty
abbrev pub gaps_doubt : List ℕ → List ℕ → Option Reason
gaps_doubt a b = first_of (gap_doubt TwoSpaces a) (gap_doubt TwoSpaces b)

abbrev pub ban_doubt : List ℕ → List ℕ → List ℕ → Option Reason
ban_doubt c m h = first_of (gap_doubt TwoSpaces c) (first_of (gap_doubt TwoSpaces m) (gap_doubt TwoSpaces h))

-- adduser H, deluser H
abbrev pub one_doubt : ChangeWord → List ℕ → Option Reason
one_doubt AddUser h = gap_doubt SpaceAfter h
one_doubt DelUser h = gap_doubt SpaceAfter h
one_doubt AddHost h = Some (ChangeForm AddHost)
one_doubt DelHost h = Some (ChangeForm DelHost)
one_doubt DelBan h = Some (ChangeForm DelBan)
one_doubt Global h = Some (ChangeForm Global)
one_doubt Bot h = Some (ChangeForm Bot)
one_doubt Chan h = Some (ChangeForm Chan)
one_doubt AddBan h = Some (ChangeForm AddBan)
one_doubt Info h = Some (ChangeForm Info)
one_doubt Sticky h = Some (ChangeForm Sticky)

-- addhost H M, delhost H M, delban C M, global H F, bot H F
abbrev pub two_doubt : ChangeWord → List ℕ → List ℕ → Option Reason
two_doubt AddHost a b = first_of (gap_doubt TwoSpaces a) (gap_doubt SpaceAfter b)
two_doubt DelHost a b = first_of (gap_doubt TwoSpaces a) (gap_doubt SpaceAfter b)
two_doubt DelBan a b = first_of (gap_doubt TwoSpaces a) (gap_doubt SpaceAfter b)
two_doubt Global a b = first_of (gap_doubt TwoSpaces a) (flags_doubt Flags b)
two_doubt Bot a b = first_of (gap_doubt TwoSpaces a) (flags_doubt Flags b)
two_doubt AddUser a b = Some (ChangeForm AddUser)
two_doubt DelUser a b = Some (ChangeForm DelUser)
two_doubt Chan a b = Some (ChangeForm Chan)
two_doubt AddBan a b = Some (ChangeForm AddBan)
two_doubt Info a b = Some (ChangeForm Info)
two_doubt Sticky a b = Some (ChangeForm Sticky)

-- chan H C F, sticky C M N
abbrev pub three_doubt : ChangeWord → List ℕ → List ℕ → List ℕ → Option Reason
three_doubt Chan a b c = first_of (gaps_doubt a b) (flags_doubt ChannelFlags c)
three_doubt Sticky a b c = first_of (gaps_doubt a b) (mark_doubt c)
three_doubt AddUser a b c = Some (ChangeForm AddUser)
three_doubt DelUser a b c = Some (ChangeForm DelUser)
three_doubt AddHost a b c = Some (ChangeForm AddHost)
three_doubt DelHost a b c = Some (ChangeForm DelHost)
three_doubt DelBan a b c = Some (ChangeForm DelBan)
three_doubt Global a b c = Some (ChangeForm Global)
three_doubt Bot a b c = Some (ChangeForm Bot)
three_doubt AddBan a b c = Some (ChangeForm AddBan)
three_doubt Info a b c = Some (ChangeForm Info)

-- addban C M H E, and the comment
abbrev pub four_doubt : ChangeWord → List ℕ → List ℕ → List ℕ → List ℕ → List (List ℕ) → Option Reason
four_doubt AddBan c m h e comment = first_of (ban_doubt c m h) (first_of (expiry_doubt (gap_before comment) e) (comment_doubt AddBan comment))
four_doubt AddUser c m h e comment = Some (ChangeForm AddUser)
four_doubt DelUser c m h e comment = Some (ChangeForm DelUser)
four_doubt AddHost c m h e comment = Some (ChangeForm AddHost)
four_doubt DelHost c m h e comment = Some (ChangeForm DelHost)
four_doubt DelBan c m h e comment = Some (ChangeForm DelBan)
four_doubt Global c m h e comment = Some (ChangeForm Global)
four_doubt Bot c m h e comment = Some (ChangeForm Bot)
four_doubt Chan c m h e comment = Some (ChangeForm Chan)
four_doubt Info c m h e comment = Some (ChangeForm Info)
four_doubt Sticky c m h e comment = Some (ChangeForm Sticky)

-- every change but info, by its number of words
abbrev pub counted_doubt : ChangeWord → List (List ℕ) → Option Reason
counted_doubt word [] = Some (ChangeForm word)
counted_doubt word (a ∷ []) = one_doubt word a
counted_doubt word (a ∷ b ∷ []) = two_doubt word a b
counted_doubt word (a ∷ b ∷ c ∷ []) = three_doubt word a b c
counted_doubt word (a ∷ b ∷ c ∷ d ∷ comment) = four_doubt word a b c d comment

-- info H, and the text
abbrev pub info_doubt : List (List ℕ) → Option Reason
info_doubt [] = Some (ChangeForm Info)
info_doubt (h ∷ text) = first_of (gap_doubt (gap_before text) h) (comment_doubt Info text)

abbrev pub change_doubt : ChangeWord → List (List ℕ) → Option Reason
change_doubt Info words = info_doubt words
change_doubt AddUser words = counted_doubt AddUser words
change_doubt DelUser words = counted_doubt DelUser words
change_doubt AddHost words = counted_doubt AddHost words
change_doubt DelHost words = counted_doubt DelHost words
change_doubt DelBan words = counted_doubt DelBan words
change_doubt Global words = counted_doubt Global words
change_doubt Bot words = counted_doubt Bot words
change_doubt Chan words = counted_doubt Chan words
change_doubt AddBan words = counted_doubt AddBan words
change_doubt Sticky words = counted_doubt Sticky words

abbrev pub change_found : Option ChangeWord → List ℕ → List (List ℕ) → Option Reason
change_found (Some word) name words = change_doubt word words
change_found None name words = Some (misread (gap_before words) Change name)

-- NAME, and the words of the edit
abbrev pub edit_doubt : List ℕ → List (List ℕ) → Option Reason
edit_doubt name words = change_found (change_word_named name) name words

-- the edit after who asks and a casemapping
abbrev pub mapped_doubt : List (List ℕ) → Option Reason
mapped_doubt [] = Some AskerForm
mapped_doubt (name ∷ words) = option_map in_name (edit_doubt name words)

-- the same, where the casemapping may be left out
abbrev pub asked_doubt : List (List ℕ) → Option Reason
asked_doubt [] = Some AskerForm
asked_doubt (word ∷ words) =
    if is_some (mapping_of word) then mapped_doubt words else option_map in_name (edit_doubt word words)

-- NICK!USER@HOST, perhaps CASEMAPPING, and the edit
abbrev pub asker_doubt : List (List ℕ) → Option Reason
asker_doubt [] = Some AskerForm
asker_doubt (person ∷ words) = first_of (gap_doubt (gap_before words) person) (asked_doubt words)

-- an edit, or who asks for one
abbrev pub ask_doubt : List ℕ → List (List ℕ) → Option Reason
ask_doubt name words = if bytes_eq name (codes "as") then asker_doubt words else edit_doubt name words
