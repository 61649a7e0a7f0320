-- Who does what a line tells, and what it counts as.
use Rattle.std.specs.Prelude.{ℕ, suc, Bool, true, false, not, ◌&&◌, ◌||◌, ◌==◌, nat_lt, List, [], ◌∷◌, ◌++◌, length, take, Option, None, Some, codes, if◌then◌else◌}
use Rattle.std.specs.List.{take_while}
use Rattle.std.specs.Str.{bytes_eq}
use Rattle.bytetext.specs.Words.{first_word, after_word}
use Rattle.rfccase.specs.Casemapping.{low_by}
use Rattle.rfccase.specs.declared.casemappings.Casemapping.TheVariants.{Ascii}
use Rattle.ircline.specs.Classes.{filled}
use Rattle.ircline.specs.Sources.{Source, Nobody, Server, Person, source_of}
use Rattle.floods.specs.declared.act.Act.{Act}
use Rattle.floods.specs.declared.command.Command.{Command}
use Rattle.floods.specs.declared.command.Command.TheVariants.{Says, Joins, Renames, Kicks, SetsModes}
use Rattle.floods.specs.declared.deed.Deed.{Deed}
use Rattle.floods.specs.declared.key.TheConstants.{MAX_KEY}
use Rattle.floods.specs.declared.kind.FloodKind.{FloodKind}
use Rattle.floods.specs.declared.kind.FloodKind.TheVariants.{Message, Ctcp, Channel, Join, Nick, Kick, Deop}
use Rattle.floods.specs.declared.place.TheConstants.{MAX_PLACE}

-- ---- the words of a line, as servers send it: `:nick!user@host PRIVMSG target :text`

abbrev pub person_of : List ℕ → List ℕ
person_of [] = []
person_of (b ∷ bs) = if b == 58 then first_word bs else []

-- what follows the prefix: the command, and so on
abbrev pub words_of : List ℕ → List ℕ
words_of [] = []
words_of (b ∷ bs) = if b == 58 then after_word (b ∷ bs) else []

-- the commands of lines that may be dropped
abbrev pub is_said : List ℕ → Bool
is_said command = bytes_eq (codes "PRIVMSG") command || bytes_eq (codes "NOTICE") command

-- the commands that are counted
abbrev pub command_named : List ℕ → Option Command
command_named command =
    if is_said command then Some Says
    else if bytes_eq (codes "JOIN") command then Some Joins
    else if bytes_eq (codes "NICK") command then Some Renames
    else if bytes_eq (codes "KICK") command then Some Kicks
    else if bytes_eq (codes "MODE") command then Some SetsModes
    else None

-- a parameter without the colon that stands before a last one
abbrev pub text_of : List ℕ → List ℕ
text_of [] = []
text_of (b ∷ bs) = if b == 58 then bs else b ∷ bs

-- the first parameter, and the second
abbrev pub target_of : List ℕ → List ℕ
target_of words = first_word (text_of words)

abbrev pub second_of : List ℕ → List ℕ
second_of words = first_word (text_of (after_word words))

-- ---- what a line counts as

-- a channel's name begins with # & + or !
abbrev pub is_channel : List ℕ → Bool
is_channel [] = false
is_channel (b ∷ bs) = b == 35 || (b == 38 || (b == 43 || b == 33))

abbrev pub is_ctcp : List ℕ → Bool
is_ctcp [] = false
is_ctcp (b ∷ bs) = b == 1

-- a CTCP that is an ACTION
abbrev pub is_action : List ℕ → Bool
is_action (b ∷ c0 ∷ c1 ∷ c2 ∷ c3 ∷ c4 ∷ c5 ∷ bs) =
    c0 == 65 && (c1 == 67 && (c2 == 84 && (c3 == 73 && (c4 == 79 && c5 == 78))))
is_action bs = false

-- what a line to this target with this text counts as
abbrev pub kind_of : List ℕ → List ℕ → FloodKind
kind_of target text =
    if is_ctcp text && not (is_channel target && is_action text) then Ctcp
    else if is_channel target then Channel else Message

-- the channel that a list begins with: what stands before the first comma, and of that at most 64 bytes
abbrev pub is_not_comma : ℕ → Bool
is_not_comma b = not (b == 44)

abbrev pub place_of : List ℕ → List ℕ
place_of target = take MAX_PLACE (take_while is_not_comma target)

-- the place of a line to this target: a channel, or no place for the bot itself
abbrev pub place_said : List ℕ → List ℕ
place_said target = if is_channel target then place_of target else []

-- How many letters o stand under a minus in these letters of modes. The first argument says whether a minus is in force.
abbrev pub deops_from : Bool → List ℕ → ℕ
deops_from minus [] = 0
deops_from minus (b ∷ bs) =
    if b == 45 then deops_from true bs
    else if b == 43 then deops_from false bs
    else if minus && b == 111 then suc (deops_from minus bs)
    else deops_from minus bs

abbrev pub deops : List ℕ → ℕ
deops letters = deops_from false letters

-- a line that a channel sees, if it is a channel and the line counts at all
abbrev pub on_channel : FloodKind → List ℕ → ℕ → Option Deed
on_channel kind target weight =
    if is_channel target && nat_lt 0 weight then Some (record { kind = kind; place = place_of target; weight = weight })
    else None

-- what a PRIVMSG or NOTICE with this target and this text counts as
abbrev pub said : List ℕ → List ℕ → Deed
said target text = record { kind = kind_of target text; place = place_said target; weight = 1 }

-- what a line with this command and these words counts as: a MODE as many as it takes op from, any other line 1
unfoldable pub deed_of : Command → List ℕ → Option Deed
deed_of Says words = Some (said (first_word words) (text_of (after_word words)))
deed_of Joins words = on_channel Join (target_of words) 1
deed_of Renames words = Some (record { kind = Nick; place = []; weight = 1 })
deed_of Kicks words = on_channel Kick (target_of words) 1
deed_of SetsModes words = on_channel Deop (target_of words) (deops (second_of words))

-- ---- who is counted

-- one byte more of a key, in the lower case of ASCII; of a longer key the first MAX_KEY bytes count
abbrev pub longer_key : List ℕ → ℕ → List ℕ
longer_key key b = if nat_lt (length key) MAX_KEY then key ++ low_by Ascii b ∷ [] else key

abbrev pub key_from : List ℕ → List ℕ → List ℕ
key_from key [] = key
key_from key (b ∷ bs) = key_from (longer_key key b) bs

-- user@host
abbrev pub key_of : List ℕ → List ℕ → List ℕ
key_of user host = key_from (longer_key (key_from [] user) 64) host

-- a person with a user and a host is counted, and nobody else
abbrev pub by_source : Deed → Source → Option Act
by_source deed Nobody = None
by_source deed (Server name) = None
by_source deed (Person nick user host) =
    if filled user && filled host
    then Some (record { key = key_of user host; kind = deed.kind; place = deed.place; weight = deed.weight }) else None

abbrev pub act_by : List ℕ → Option Deed → Option Act
act_by person None = None
act_by person (Some deed) = by_source deed (source_of person)

-- what a person does by a line with this command and these words
unfoldable pub told_by : List ℕ → Option Command → List ℕ → Option Act
told_by person None words = None
told_by person (Some command) words = act_by person (deed_of command words)

-- what a line tells, without its end
abbrev pub act_of : List ℕ → Option Act
act_of line = told_by (person_of line) (command_named (first_word (words_of line))) (after_word (words_of line))
