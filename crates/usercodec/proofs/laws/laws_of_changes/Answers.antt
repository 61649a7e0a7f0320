use Rattle.usercodec.proofs.ChangeLaws.{change_sort}
use Rattle.usercodec.proofs.SortLaws.{apart, cut}
use Rattle.usercodec.proofs.TagLaws.{change_tag}
use Rattle.usercodec.proofs.laws.laws_of_changes.Goals as goal

pub returns-clause-apart : goal.returns-clause-apart
returns-clause-apart c = apart change_sort

pub returns-clause-cut : goal.returns-clause-cut
returns-clause-cut c = cut change_sort

pub returns-clause-stays : goal.returns-clause-stays
returns-clause-stays c = change_sort.stays

pub returns-clause-tag : goal.returns-clause-tag
returns-clause-tag c = change_tag
