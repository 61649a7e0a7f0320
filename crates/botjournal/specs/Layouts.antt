-- How a layout spells changes and records, and what reading one returns. Layout 1 had no info texts and no sticky bans,
-- and layouts 1 to 3 had no changes in a person's name. All layouts that have a change spell it alike.
use Rattle.std.specs.Prelude.{ℕ, ◌==◌, List, Option, Some, None, if◌then◌else◌}
use Rattle.userfile.specs.declared.change.Change.{Change}
use Rattle.usercodec.specs.declared.records.Record.{Record}
use Rattle.usercodec.specs.Fields.{Reading}
use Rattle.usercodec.specs.Changes.{IsGoodChange, change_at}
use Rattle.usercodec.specs.Records.{record_bytes, IsGoodRecord, so_many_records_at}
use Rattle.usercodec.specs.Old.{IsGoodNamelessChange, nameless_change_at, IsGoodChangeOld, change_at_old, record_bytes_old, IsGoodRecordOld, so_many_records_at_old}
use Rattle.botjournal.specs.declared.TheConstants.{LAYOUT}
use Rattle.botjournal.specs.declared.layouts.Layout.{Layout}
use Rattle.botjournal.specs.declared.layouts.Layout.TheVariants.{First, Second, Third, Fourth}

-- the layout of this number: layouts of other numbers aren't read
abbrev pub layout_of : ℕ → Option Layout
layout_of number =
    if number == 1 then Some First
    else (if number == 2 then Some Second
    else (if number == 3 then Some Third
    else (if number == LAYOUT then Some Fourth
    else None)))

-- ---- changes: all layouts that have one spell it alike

-- a change that has a spelling
abbrev pub IsGoodChangeBy : Layout → Change → Type 0
IsGoodChangeBy First = IsGoodChangeOld
IsGoodChangeBy Second = IsGoodNamelessChange
IsGoodChangeBy Third = IsGoodNamelessChange
IsGoodChangeBy Fourth = IsGoodChange

abbrev pub change_by : Layout → List ℕ → Reading Change
change_by First = change_at_old
change_by Second = nameless_change_at
change_by Third = nameless_change_at
change_by Fourth = change_at

-- ---- records

abbrev pub record_bytes_by : Layout → Record → List ℕ
record_bytes_by First = record_bytes_old
record_bytes_by Second = record_bytes
record_bytes_by Third = record_bytes
record_bytes_by Fourth = record_bytes

-- a record that has a spelling
abbrev pub IsGoodRecordBy : Layout → Record → Type 0
IsGoodRecordBy First = IsGoodRecordOld
IsGoodRecordBy Second = IsGoodRecord
IsGoodRecordBy Third = IsGoodRecord
IsGoodRecordBy Fourth = IsGoodRecord

-- this number of records, one after the other
abbrev pub so_many_records_by : Layout → ℕ → List ℕ → Reading (List Record)
so_many_records_by First = so_many_records_at_old
so_many_records_by Second = so_many_records_at
so_many_records_by Third = so_many_records_at
so_many_records_by Fourth = so_many_records_at
