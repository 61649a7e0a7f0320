use Rattle.usercodec.proofs.OldLaws.{record_sort_old}
use Rattle.usercodec.proofs.SortLaws.{apart, cut}
use Rattle.usercodec.proofs.TagLaws.{record_tag_old}
use Rattle.usercodec.proofs.laws.laws_of_records_old.Goals as goal

pub returns-clause-apart : goal.returns-clause-apart
returns-clause-apart c = apart record_sort_old

pub returns-clause-cut : goal.returns-clause-cut
returns-clause-cut c = cut record_sort_old

pub returns-clause-stays : goal.returns-clause-stays
returns-clause-stays c = record_sort_old.stays

pub returns-clause-tag : goal.returns-clause-tag
returns-clause-tag c = record_tag_old
