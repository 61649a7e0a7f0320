-- What a command asks for, or what to say instead.
use Rattle.std.specs.Prelude.{◌≡◌, ℕ, ◌==◌, ◌||◌, ◌&&◌, not, nat_lt, nat_le, Bool, false, codes, slice_index, List, [], ◌∷◌, length, Option, None, Some, Result, Ok, Err, if◌then◌else◌}
use Rattle.std.specs.List.{list_all, list_any}
use Rattle.std.specs.Str.{bytes_eq}
use Rattle.bytetext.specs.declared.failure.Failure.{Failure}
use Rattle.bytetext.specs.declared.failure.Failure.TheVariants.{Refused, NoMemory}
use Rattle.bytetext.specs.Numerals.{number_from}
use Rattle.rfccase.specs.Channels.{is_channel_name}
use Rattle.userfile.specs.declared.edit.Edit.{Edit}
use Rattle.userfile.specs.Changes.{by_nobody}
use Rattle.recordtext.specs.Words.{words_of, is_empty, rest_of, number_below}
use Rattle.recordtext.specs.Edits.{edit_named}
use Rattle.control.specs.declared.TheConstants.{MAX_COMMAND, MAX_KEY, MAX_LINE}
use Rattle.control.specs.declared.command_word.CommandWord.{CommandWord}
use Rattle.control.specs.declared.command_word.CommandWord.TheVariants as word
use Rattle.control.specs.declared.advice.CommandAdvice.{CommandAdvice}
use Rattle.control.specs.declared.advice.CommandAdvice.TheVariants.{TooLong, BareByte, Unknown, Form}
use Rattle.control.specs.declared.admin_command.AdminCommand.{AdminCommand}
use Rattle.control.specs.declared.admin_command.AdminCommand.TheVariants as command
use Rattle.control.specs.Vocabulary.{word_named}

-- ---- what follows each word

-- a word that stands alone
abbrev pub alone : CommandWord → List (List ℕ) → AdminCommand → Result AdminCommand CommandAdvice
alone name [] asked = Ok asked
alone name (w ∷ words) asked = Err (Form name)

-- an edit by its name and words: an admin asks for it in nobody's name
abbrev pub edit_found : CommandWord → Option Edit → Result AdminCommand CommandAdvice
edit_found name None = Err (Form name)
edit_found name (Some edit) = Ok (command.Change (by_nobody edit))

abbrev pub change_said : CommandWord → List ℕ → List (List ℕ) → Result AdminCommand CommandAdvice
change_said name spelling words = edit_found name (edit_named spelling words)

-- bind TYPE FLAGS PROC MASK: the mask takes the rest of the line
abbrev pub bound : List ℕ → List ℕ → List ℕ → Option (List ℕ) → Result AdminCommand CommandAdvice
bound kind flags proc None = Err (Form word.Bind)
bound kind flags proc (Some mask) =
    if is_empty kind || is_empty flags || is_empty proc then Err (Form word.Bind)
    else Ok (command.Bind (record { kind = kind; flags = flags; proc = proc; mask = mask }))

abbrev pub bind_said : List (List ℕ) → Result AdminCommand CommandAdvice
bind_said (kind ∷ flags ∷ proc ∷ mask ∷ words) = bound kind flags proc (rest_of (mask ∷ words))
bind_said (kind ∷ flags ∷ proc ∷ []) = Err (Form word.Bind)
bind_said (kind ∷ flags ∷ []) = Err (Form word.Bind)
bind_said (kind ∷ []) = Err (Form word.Bind)
bind_said [] = Err (Form word.Bind)

-- unbind TYPE PROC MASK
abbrev pub unbound : List ℕ → List ℕ → Option (List ℕ) → Result AdminCommand CommandAdvice
unbound kind proc None = Err (Form word.Unbind)
unbound kind proc (Some mask) =
    if is_empty kind || is_empty proc then Err (Form word.Unbind)
    else Ok (command.Unbind (record { kind = kind; proc = proc; mask = mask }))

abbrev pub unbind_said : List (List ℕ) → Result AdminCommand CommandAdvice
unbind_said (kind ∷ proc ∷ mask ∷ words) = unbound kind proc (rest_of (mask ∷ words))
unbind_said (kind ∷ proc ∷ []) = Err (Form word.Unbind)
unbind_said (kind ∷ []) = Err (Form word.Unbind)
unbind_said [] = Err (Form word.Unbind)

-- say LINE, which is at most as long as a line of IRC may be
abbrev pub said : Option (List ℕ) → Result AdminCommand CommandAdvice
said None = Err (Form word.Say)
said (Some line) = if nat_lt MAX_LINE (length line) then Err (Form word.Say) else Ok (command.Say line)

abbrev pub say_said : List (List ℕ) → Result AdminCommand CommandAdvice
say_said [] = Err (Form word.Say)
say_said (w ∷ words) = said (rest_of (w ∷ words))

-- renew N: digits, of a number from 1
abbrev pub renewed : Option ℕ → Result AdminCommand CommandAdvice
renewed None = Err (Form word.Renew)
renewed (Some leaf) = if leaf == 0 then Err (Form word.Renew) else Ok (command.Renew leaf)

abbrev pub renew_said : List (List ℕ) → Result AdminCommand CommandAdvice
renew_said [] = Err (Form word.Renew)
renew_said (number ∷ []) = renewed (number_from 0 number)
renew_said (number ∷ w ∷ words) = Err (Form word.Renew)

-- handover N: digits, of a number from 1
abbrev pub handed_over : Option ℕ → Result AdminCommand CommandAdvice
handed_over None = Err (Form word.HandOver)
handed_over (Some leaf) = if leaf == 0 then Err (Form word.HandOver) else Ok (command.HandOver leaf)

abbrev pub handover_said : List (List ℕ) → Result AdminCommand CommandAdvice
handover_said [] = Err (Form word.HandOver)
handover_said (number ∷ []) = handed_over (number_from 0 number)
handover_said (number ∷ w ∷ words) = Err (Form word.HandOver)

-- changes FROM: the number of a change, from 1
abbrev pub changes_from : Option ℕ → Result AdminCommand CommandAdvice
changes_from None = Err (Form word.Changes)
changes_from (Some from) = if from == 0 then Err (Form word.Changes) else Ok (command.Changes from)

abbrev pub changes_said : List (List ℕ) → Result AdminCommand CommandAdvice
changes_said [] = Err (Form word.Changes)
changes_said (number ∷ []) = changes_from (number_below 4294967296 number)
changes_said (number ∷ w ∷ words) = Err (Form word.Changes)

-- die TEXT, which may be left out
abbrev pub die_text : Option (List ℕ) → List ℕ
die_text None = []
die_text (Some text) = text

abbrev pub die_said : List (List ℕ) → Result AdminCommand CommandAdvice
die_said [] = Ok (command.Die [])
die_said (w ∷ words) = Ok (command.Die (die_text (rest_of (w ∷ words))))

-- show and status: json may follow
abbrev pub show_said : List (List ℕ) → Result AdminCommand CommandAdvice
show_said [] = Ok command.Show
show_said (form ∷ []) = if bytes_eq form (codes "json") then Ok command.ShowJson else Err (Form word.Show)
show_said (form ∷ w ∷ words) = Err (Form word.Show)

abbrev pub status_said : List (List ℕ) → Result AdminCommand CommandAdvice
status_said [] = Ok command.Status
status_said (form ∷ []) = if bytes_eq form (codes "json") then Ok command.StatusJson else Err (Form word.Status)
status_said (form ∷ w ∷ words) = Err (Form word.Status)

-- backup FOLDER, which is a path from the root
abbrev pub is_absolute : List ℕ → Bool
is_absolute [] = false
is_absolute (b ∷ path) = b == 47

abbrev pub folder_named : Option (List ℕ) → Result AdminCommand CommandAdvice
folder_named None = Err (Form word.Backup)
folder_named (Some folder) = if is_absolute folder then Ok (command.Backup folder) else Err (Form word.Backup)

abbrev pub backup_said : List (List ℕ) → Result AdminCommand CommandAdvice
backup_said [] = Err (Form word.Backup)
backup_said (w ∷ words) = folder_named (rest_of (w ∷ words))

-- +chan CHANNEL KEY, and the KEY may be left out: it has no control byte, space or comma, and does not begin with a colon
-- (RFC 2812 section 2.3.1 has 1 to 23 bytes; servers of today accept more)
abbrev pub is_key_byte : ℕ → Bool
is_key_byte b = nat_lt 32 b && not (b == 44)

abbrev pub is_key : List ℕ → Bool
is_key word =
    nat_le 1 (length word) && (nat_le (length word) MAX_KEY && (not (slice_index word 0 == 58) && list_all is_key_byte word))

abbrev pub joined : List ℕ → Option (List ℕ) → Result AdminCommand CommandAdvice
joined name key =
    if is_channel_name name then Ok (command.Join (record { channel = name; key = key })) else Err (Form word.AddChan)

abbrev pub join_said : List (List ℕ) → Result AdminCommand CommandAdvice
join_said [] = Err (Form word.AddChan)
join_said (name ∷ []) = joined name None
join_said (name ∷ key ∷ []) = if is_key key then joined name (Some key) else Err (Form word.AddChan)
join_said (name ∷ key ∷ w ∷ words) = Err (Form word.AddChan)

-- -chan CHANNEL
abbrev pub part_said : List (List ℕ) → Result AdminCommand CommandAdvice
part_said [] = Err (Form word.DelChan)
part_said (name ∷ []) = if is_channel_name name then Ok (command.Part name) else Err (Form word.DelChan)
part_said (name ∷ w ∷ words) = Err (Form word.DelChan)

-- unignore USER@HOST
abbrev pub unignore_said : List (List ℕ) → Result AdminCommand CommandAdvice
unignore_said [] = Err (Form word.Unignore)
unignore_said (key ∷ []) = if is_empty key then Err (Form word.Unignore) else Ok (command.Unignore key)
unignore_said (key ∷ w ∷ words) = Err (Form word.Unignore)

-- ---- a line

abbrev pub said_of : Option CommandWord → List ℕ → List (List ℕ) → Result AdminCommand CommandAdvice
said_of None spelling words = Err Unknown
said_of (Some word.AddBan) spelling words = change_said word.AddBan spelling words
said_of (Some word.AddHost) spelling words = change_said word.AddHost spelling words
said_of (Some word.AddUser) spelling words = change_said word.AddUser spelling words
said_of (Some word.AddChan) spelling words = join_said words
said_of (Some word.DelChan) spelling words = part_said words
said_of (Some word.Backup) spelling words = backup_said words
said_of (Some word.Bind) spelling words = bind_said words
said_of (Some word.Bot) spelling words = change_said word.Bot spelling words
said_of (Some word.Chan) spelling words = change_said word.Chan spelling words
said_of (Some word.Changes) spelling words = changes_said words
said_of (Some word.Compact) spelling words = alone word.Compact words command.Compact
said_of (Some word.DelBan) spelling words = change_said word.DelBan spelling words
said_of (Some word.DelHost) spelling words = change_said word.DelHost spelling words
said_of (Some word.DelUser) spelling words = change_said word.DelUser spelling words
said_of (Some word.Die) spelling words = die_said words
said_of (Some word.Global) spelling words = change_said word.Global spelling words
said_of (Some word.HandOver) spelling words = handover_said words
said_of (Some word.Info) spelling words = change_said word.Info spelling words
said_of (Some word.Jump) spelling words = alone word.Jump words command.Jump
said_of (Some word.Reload) spelling words = alone word.Reload words command.Reload
said_of (Some word.Renew) spelling words = renew_said words
said_of (Some word.Reopen) spelling words = alone word.Reopen words command.Reopen
said_of (Some word.Say) spelling words = say_said words
said_of (Some word.Show) spelling words = show_said words
said_of (Some word.Status) spelling words = status_said words
said_of (Some word.Sticky) spelling words = change_said word.Sticky spelling words
said_of (Some word.Trust) spelling words = alone word.Trust words command.Trust
said_of (Some word.Unbind) spelling words = unbind_said words
said_of (Some word.Unignore) spelling words = unignore_said words

-- the first word says what is asked for
abbrev pub command_by_words : List (List ℕ) → Result AdminCommand CommandAdvice
command_by_words [] = Err Unknown
command_by_words (name ∷ words) = said_of (word_named name) name words

-- NUL, LF and CR stand in no line of IRC
abbrev pub is_bare : ℕ → Bool
is_bare b = b == 0 || b == 10 || b == 13

-- what a line asks for
abbrev pub command_of : List ℕ → Result AdminCommand CommandAdvice
command_of line =
    if nat_lt MAX_COMMAND (length line) then Err TooLong
    else if list_any is_bare line then Err BareByte
    else command_by_words (words_of line)

-- ---- what reading answers

-- this is what is to be answered, unless memory runs out
abbrev pub Answers : Result AdminCommand CommandAdvice → Result AdminCommand (Failure CommandAdvice) → Type 0
Answers asked (Ok found) = asked ≡ Ok found
Answers asked (Err (Refused advice)) = asked ≡ Err advice
Answers asked (Err NoMemory) = Unit {0}
