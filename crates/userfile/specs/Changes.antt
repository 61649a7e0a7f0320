-- A change in nobody's name, and one in a person's.
use Rattle.std.specs.Prelude.{None, Some}
use Rattle.userfile.specs.declared.change.Asker.{Asker}
use Rattle.userfile.specs.declared.change.Change.{Change}
use Rattle.userfile.specs.declared.edit.Edit.{Edit}

abbrev pub by_nobody : Edit → Change
by_nobody edit = record { by = None; edit = edit }

abbrev pub by_person : Asker → Edit → Change
by_person asker edit = record { by = Some asker; edit = edit }
