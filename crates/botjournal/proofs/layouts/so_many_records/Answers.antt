use Rattle.usercodec.specs.Records.{record_at}
use Rattle.usercodec.specs.Old.{record_at_old}
use Rattle.usercodec.proofs.ItemSteps.{alone}
use Rattle.botjournal.proofs.ItemLaws.{some_found}
use Rattle.botjournal.proofs.layouts.so_many_records.Goals as goal

pub returns-in-First : goal.returns-in-First
returns-in-First c =
    rw c.in-First.is
    (some_found _ (alone record_at_old) c.args.count c.args.reader.now c.records_old.result c.records_old.ensures.value
    c.records_old.ensures.memory)

pub returns-in-Second : goal.returns-in-Second
returns-in-Second c =
    rw c.in-Second.is
    (some_found _ (alone record_at) c.args.count c.args.reader.now c.records.result c.records.ensures.value c.records.ensures.memory)

pub returns-in-Third : goal.returns-in-Third
returns-in-Third c =
    rw c.in-Third.is
    (some_found _ (alone record_at) c.args.count c.args.reader.now c.records-in-Third.result c.records-in-Third.ensures.value
    c.records-in-Third.ensures.memory)

pub returns-in-Fourth : goal.returns-in-Fourth
returns-in-Fourth c =
    rw c.in-Fourth.is
    (some_found _ (alone record_at) c.args.count c.args.reader.now c.records-in-Fourth.result c.records-in-Fourth.ensures.value
    c.records-in-Fourth.ensures.memory)
