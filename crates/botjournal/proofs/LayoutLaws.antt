-- Changes and records in each layout.
use Rattle.userfile.specs.declared.change.Change.{Change}
use Rattle.usercodec.specs.declared.records.Record.{Record}
use Rattle.usercodec.specs.Changes.{change_bytes, IsGoodChange}
use Rattle.usercodec.specs.Records.{IsGoodRecord}
use Rattle.usercodec.proofs.PartLaws.{IsPart}
use Rattle.usercodec.proofs.ReaderLaws.{change_part, nameless_change_part, change_part_old}
use Rattle.botjournal.specs.declared.layouts.Layout.{Layout}
use Rattle.botjournal.specs.declared.layouts.Layout.TheVariants.{First, Second, Third, Fourth}
use Rattle.botjournal.specs.Layouts.{IsGoodChangeBy, change_by, IsGoodRecordBy}

pub change_part_by : (layout : Layout) → IsPart (change_by layout) change_bytes (IsGoodChangeBy layout)
change_part_by First = change_part_old
change_part_by Second = nameless_change_part
change_part_by Third = nameless_change_part
change_part_by Fourth = change_part

-- what any layout spells has the spelling that is written

pub change_good : (layout : Layout) (change : Change) → IsGoodChangeBy layout change → IsGoodChange change
change_good First change good = good.good
change_good Second change good = good.good
change_good Third change good = good.good
change_good Fourth change good = good

pub record_good : (layout : Layout) (value : Record) → IsGoodRecordBy layout value → IsGoodRecord value
record_good First value good = good.good
record_good Second value good = good
record_good Third value good = good
record_good Fourth value good = good
