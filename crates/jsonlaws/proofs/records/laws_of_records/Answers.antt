use Rattle.jsonlaws.proofs.RecordLemmas.{records_are_document}
use Rattle.jsonlaws.proofs.records.laws_of_records.Goals as goal

pub returns : goal.returns
returns c = record { document = records_are_document }
