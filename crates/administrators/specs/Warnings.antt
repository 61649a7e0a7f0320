-- Whether a change gives a user a hostmask that fits strangers too.
use Rattle.std.specs.Prelude.{Option, None}
use Rattle.loosemask.specs.Loose.{looseness_of}
use Rattle.loosemask.specs.declared.looseness.Looseness.{Looseness}
use Rattle.userfile.specs.declared.change.Change.{Change}
use Rattle.userfile.specs.declared.edit.Edit.{Edit}
use Rattle.userfile.specs.declared.edit.Edit.TheVariants.{AddUser, DelUser, AddHost, DelHost, SetGlobal, SetChan, SetBot, AddBan, DelBan, SetInfo, SetSticky}

abbrev pub looseness_by : Edit → Option Looseness
looseness_by (AddHost handle mask) = looseness_of mask
looseness_by (AddUser handle) = None
looseness_by (DelUser handle) = None
looseness_by (DelHost handle mask) = None
looseness_by (SetGlobal handle flags) = None
looseness_by (SetChan handle channel flags) = None
looseness_by (SetBot handle flags) = None
looseness_by (AddBan channel mask creator expires comment) = None
looseness_by (DelBan channel mask) = None
looseness_by (SetInfo handle info) = None
looseness_by (SetSticky channel mask on) = None

abbrev pub looseness_in : Change → Option Looseness
looseness_in change = looseness_by change.edit
