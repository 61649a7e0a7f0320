-- The accepted changes, as an admin is told of them.
use Rattle.std.specs.Prelude.{◌≡◌, ℕ, ◌+◌, ◌-◌, max, nat_le, List, [], ◌∷◌, ◌++◌, length, take, drop, Option, None, Some}
use Rattle.std.specs.Prelude.{if◌then◌else◌, codes, decimal}
use Rattle.control.specs.Vocabulary.{spelling_of}
use Rattle.control.specs.declared.command_word.CommandWord.{CommandWord}
use Rattle.control.specs.declared.command_word.CommandWord.TheVariants as says
use Rattle.protocol.specs.Packets.{AcceptedChange}
use Rattle.userfile.specs.declared.change.Asker.{Asker}
use Rattle.userfile.specs.declared.edit.Edit.{Edit}
use Rattle.userfile.specs.declared.edit.Edit.TheVariants.{AddUser, DelUser, AddHost, DelHost, SetGlobal, SetChan, SetBot, AddBan, DelBan, SetInfo, SetSticky}
use Rattle.administrators.specs.declared.told_changes.TheConstants.{MAX_TOLD}

-- ---- which changes are told

-- The journal holds so many changes, up to this version. The number of the last one that it no longer holds, or 0.
abbrev pub floor_of : ℕ → ℕ → ℕ
floor_of count version = version - count

-- the number of the first change that is told: the one that is asked for, or the first that is held
abbrev pub first_told : ℕ → ℕ → ℕ
first_told floor from = max from (floor + 1)

-- The changes from number `from` on, as far as they are held, and at most MAX_TOLD. The first of those that are held has the
-- number `floor + 1`.
abbrev pub told_from : List AcceptedChange → ℕ → ℕ → List AcceptedChange
told_from held floor from = take MAX_TOLD (drop (from - floor - 1) held)

-- ---- a change in words

-- the command by which an admin asks for an edit
abbrev pub command_for : Edit → CommandWord
command_for (AddUser handle) = says.AddUser
command_for (DelUser handle) = says.DelUser
command_for (AddHost handle mask) = says.AddHost
command_for (DelHost handle mask) = says.DelHost
command_for (SetGlobal handle flags) = says.Global
command_for (SetChan handle channel flags) = says.Chan
command_for (SetBot handle flags) = says.Bot
command_for (AddBan channel mask creator expires comment) = says.AddBan
command_for (DelBan channel mask) = says.DelBan
command_for (SetInfo handle info) = says.Info
command_for (SetSticky channel mask on) = says.Sticky

-- under which number a change was accepted, and which bot asked for it
abbrev pub acceptance : ℕ → ℕ → List ℕ
acceptance number bot = codes "change " ++ (decimal number ++ (codes ", asked by bot " ++ decimal bot))

-- in whose name it was asked for, where `person` is how a log shows that person: nothing if in nobody's
abbrev pub name_words : Option Asker → List ℕ → List ℕ
name_words None person = []
name_words (Some asker) person = codes ", in the name of " ++ person

-- what is edited, where `words` follow the command's first word
abbrev pub edit_words : Edit → List ℕ → List ℕ
edit_words edit words = codes ": " ++ (spelling_of (command_for edit) ++ (words ++ codes "\n"))

-- the line of a change: under which number it was accepted, which bot asked, in whose name, and what it edits
abbrev pub change_line : ℕ → AcceptedChange → List ℕ → List ℕ → List ℕ
change_line number accepted person words =
    acceptance number accepted.origin ++ (name_words accepted.change.by person ++ edit_words accepted.change.edit words)

-- The same, where nothing is claimed of how a log shows the person, and of what follows the command's first word.
pub record IsLine (number : ℕ) (accepted : AcceptedChange) (line : List ℕ) : Type 0 where
  pub person : List ℕ
  pub words : List ℕ
  pub is : line ≡ change_line number accepted person words

-- a line for each of these changes, in order, the first of which has this number
unfoldable pub AreLines : ℕ → List AcceptedChange → List ℕ → Type 0
AreLines number [] text = text ≡ []
AreLines number (accepted ∷ later) text =
    (line : List ℕ) × (rest : List ℕ)
    × (text ≡ line ++ rest) × IsLine number accepted line × AreLines (number + 1) later rest

-- ---- the answer

-- the line that comes first if a change that is asked for is no longer held
abbrev pub lost_line : ℕ → ℕ → List ℕ
lost_line floor from =
    if nat_le from floor then codes "changes up to " ++ (decimal floor ++ codes " are no longer in the journal\n") else []

-- the line that comes last: which number to ask for next, unless there is no such change
abbrev pub next_line : ℕ → ℕ → List ℕ
next_line next version =
    if nat_le next version then codes "say changes " ++ (decimal next ++ codes " for the next ones\n")
    else codes "these are all: the version is " ++ (decimal version ++ codes "\n")

-- a line for each of the changes that are told, between these two: the first one has the number `first`
pub record IsAnswer (told : List AcceptedChange) (first floor version from : ℕ) (text : List ℕ) : Type 0 where
  pub lines : List ℕ
  pub each : AreLines first told lines
  pub is : text ≡ lost_line floor from ++ (lines ++ next_line (first + length told) version)

-- The answer to who asks for the changes from number `from` on. `held` are the changes that the journal holds, the last of
-- which has the number `version`.
abbrev pub AnswersChanges : List AcceptedChange → ℕ → ℕ → List ℕ → Type 0
AnswersChanges held version from text =
    let floor = floor_of (length held) version in
    IsAnswer (told_from held floor from) (first_told floor from) floor version from text
