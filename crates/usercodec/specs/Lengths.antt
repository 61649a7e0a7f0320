-- Texts whose length fits in one byte.
use Rattle.std.specs.Prelude.{ℕ, ◌<◌, List, length, Option, Some, None}
use Rattle.userfile.specs.declared.change.Asker.{Asker}
use Rattle.userfile.specs.declared.change.Change.{Change}
use Rattle.userfile.specs.declared.edit.Edit.{Edit}
use Rattle.userfile.specs.declared.edit.Edit.TheVariants.{AddUser, DelUser, AddHost, DelHost, SetGlobal, SetChan, SetBot, AddBan, DelBan}
use Rattle.userfile.specs.declared.edit.Edit.TheVariants.{SetInfo, SetSticky}

abbrev pub IsShort : List ℕ → Type 0
IsShort text = length text < 256

-- each text of an edit is short
abbrev pub EditIsShort : Edit → Type 0
EditIsShort (AddUser handle) = IsShort handle
EditIsShort (DelUser handle) = IsShort handle
EditIsShort (AddHost handle mask) = IsShort handle × IsShort mask
EditIsShort (DelHost handle mask) = IsShort handle × IsShort mask
EditIsShort (SetGlobal handle bits) = IsShort handle
EditIsShort (SetChan handle channel bits) = IsShort handle × IsShort channel
EditIsShort (SetBot handle bits) = IsShort handle
EditIsShort (AddBan channel mask creator expires comment) = IsShort channel × IsShort mask × IsShort creator × IsShort comment
EditIsShort (DelBan channel mask) = IsShort channel × IsShort mask
EditIsShort (SetInfo handle info) = IsShort handle × IsShort info
EditIsShort (SetSticky channel mask on) = IsShort channel × IsShort mask

-- a person's name, if one asks, is short
abbrev pub AskerIsShort : Option Asker → Type 0
AskerIsShort None = Unit {0}
AskerIsShort (Some asker) = IsShort asker.person

-- each text of a change is short
abbrev pub ChangeIsShort : Change → Type 0
ChangeIsShort change = AskerIsShort change.by × EditIsShort change.edit
