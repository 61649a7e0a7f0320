use Rattle.usercodec.proofs.OldLaws.{nameless_sort}
use Rattle.usercodec.proofs.SortLaws.{apart, cut}
use Rattle.usercodec.proofs.TagLaws.{nameless_tag}
use Rattle.usercodec.proofs.laws.laws_of_nameless_changes.Goals as goal

pub returns-clause-apart : goal.returns-clause-apart
returns-clause-apart c = apart nameless_sort

pub returns-clause-cut : goal.returns-clause-cut
returns-clause-cut c = cut nameless_sort

pub returns-clause-stays : goal.returns-clause-stays
returns-clause-stays c = nameless_sort.stays

pub returns-clause-tag : goal.returns-clause-tag
returns-clause-tag c = nameless_tag
