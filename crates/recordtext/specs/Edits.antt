-- The edits that words spell, by their names.
use Rattle.std.specs.Prelude.{ℕ, ◌==◌, ◌||◌, Bool, List, [], ◌∷◌, Option, None, Some, option_map, if◌then◌else◌, codes}
use Rattle.std.specs.Str.{bytes_eq}
use Rattle.flagexpr.specs.declared.fault.FlagFault.{FlagFault}
use Rattle.flagexpr.specs.Letters.{set_of}
use Rattle.flagexpr.specs.Faults.{flags_fault}
use Rattle.userfile.specs.declared.edit.Edit.{Edit}
use Rattle.userfile.specs.declared.edit.Edit.TheVariants.{AddUser, DelUser, AddHost, DelHost, SetGlobal, SetChan, SetBot, AddBan, DelBan, SetInfo, SetSticky}
use Rattle.recordtext.specs.declared.editing.TwoWords.{TwoWords}
use Rattle.recordtext.specs.declared.editing.TwoWords.TheVariants.{AddHost as add_host, DelHost as del_host, DelBan as del_ban, Global as set_global, Bot as set_bot}
use Rattle.recordtext.specs.Words.{is_empty, rest_of, number_below, words_of}

-- flags are letters, or - for no flags
abbrev pub unless_fault : Option FlagFault → ℕ → Option ℕ
unless_fault None flags = Some flags
unless_fault (Some fault) flags = None

abbrev pub flags_of : List ℕ → Option ℕ
flags_of word = unless_fault (flags_fault word) (set_of word)

-- the channel of a ban: * means all of them
abbrev pub channel_of : List ℕ → List ℕ
channel_of word = if bytes_eq word (codes "*") then [] else word

-- an expiry
abbrev pub expiry_of : List ℕ → Option ℕ
expiry_of word = number_below 18446744073709551616 word

-- whether a ban is sticky: 1 if it is, 0 if it is not
abbrev pub mark_of : List ℕ → Option Bool
mark_of word = option_map (λ n. n == 1) (number_below 2 word)

-- a comment is the rest of the line; it may be left out, but not be empty
abbrev pub comment_of : List (List ℕ) → Option (List ℕ)
comment_of [] = Some []
comment_of (word ∷ words) = rest_of (word ∷ words)

-- NAME H
abbrev pub by_one_word : List ℕ → List ℕ → Option Edit
by_one_word name h =
    if is_empty h then None
    else if bytes_eq name (codes "adduser") then Some (AddUser h)
    else if bytes_eq name (codes "deluser") then Some (DelUser h)
    else None

-- addhost H M, delhost H M, delban C M, global H F, bot H F
abbrev pub pair_of : List ℕ → Option TwoWords
pair_of name =
    if bytes_eq name (codes "addhost") then Some add_host
    else if bytes_eq name (codes "delhost") then Some del_host
    else if bytes_eq name (codes "delban") then Some del_ban
    else if bytes_eq name (codes "global") then Some set_global
    else if bytes_eq name (codes "bot") then Some set_bot
    else None

abbrev pub pair_edit : Option TwoWords → List ℕ → List ℕ → Option Edit
pair_edit (Some add_host) a b = Some (AddHost a b)
pair_edit (Some del_host) a b = Some (DelHost a b)
pair_edit (Some del_ban) a b = Some (DelBan (channel_of a) b)
pair_edit (Some set_global) a b = option_map (SetGlobal a) (flags_of b)
pair_edit (Some set_bot) a b = option_map (SetBot a) (flags_of b)
pair_edit None a b = None

abbrev pub by_two_words : List ℕ → List ℕ → List ℕ → Option Edit
by_two_words name a b = if is_empty a || is_empty b then None else pair_edit (pair_of name) a b

-- chan H C F, sticky C M N
abbrev pub by_three_words : List ℕ → List ℕ → List ℕ → List ℕ → Option Edit
by_three_words name a b c =
    if is_empty a || is_empty b || is_empty c then None
    else if bytes_eq name (codes "chan") then option_map (SetChan a b) (flags_of c)
    else if bytes_eq name (codes "sticky") then option_map (SetSticky (channel_of a) b) (mark_of c)
    else None

-- addban C M H E, and the comment
abbrev pub ban_of : List ℕ → List ℕ → List ℕ → Option ℕ → Option (List ℕ) → Option Edit
ban_of c m h (Some expires) (Some comment) = Some (AddBan (channel_of c) m h expires comment)
ban_of c m h (Some expires) None = None
ban_of c m h None comment = None

abbrev pub by_more_words : List ℕ → List ℕ → List ℕ → List ℕ → List ℕ → List (List ℕ) → Option Edit
by_more_words name c m h e words =
    if is_empty c || is_empty m || is_empty h then None
    else if bytes_eq name (codes "addban") then ban_of c m h (expiry_of e) (comment_of words)
    else None

-- every edit but info, by its number of words
abbrev pub edit_by_count : List ℕ → List (List ℕ) → Option Edit
edit_by_count name (a ∷ []) = by_one_word name a
edit_by_count name (a ∷ b ∷ []) = by_two_words name a b
edit_by_count name (a ∷ b ∷ c ∷ []) = by_three_words name a b c
edit_by_count name (a ∷ b ∷ c ∷ d ∷ words) = by_more_words name a b c d words
edit_by_count name [] = None

-- info H, and the text; without a text the info is emptied
abbrev pub info_by_words : List (List ℕ) → Option Edit
info_by_words (h ∷ words) = if is_empty h then None else option_map (SetInfo h) (comment_of words)
info_by_words [] = None

abbrev pub edit_named : List ℕ → List (List ℕ) → Option Edit
edit_named name words = if bytes_eq name (codes "info") then info_by_words words else edit_by_count name words

-- the edit that words spell, the first of which is its name
abbrev pub edit_by_words : List (List ℕ) → Option Edit
edit_by_words [] = None
edit_by_words (name ∷ words) = edit_named name words

abbrev pub edit_of : List ℕ → Option Edit
edit_of text = edit_by_words (words_of text)
