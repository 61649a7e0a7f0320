use Rattle.usercodec.proofs.OldLaws.{change_sort_old}
use Rattle.usercodec.proofs.SortLaws.{apart, cut}
use Rattle.usercodec.proofs.TagLaws.{change_tag_old}
use Rattle.usercodec.proofs.laws.laws_of_changes_old.Goals as goal

pub returns-clause-apart : goal.returns-clause-apart
returns-clause-apart c = apart change_sort_old

pub returns-clause-cut : goal.returns-clause-cut
returns-clause-cut c = cut change_sort_old

pub returns-clause-stays : goal.returns-clause-stays
returns-clause-stays c = change_sort_old.stays

pub returns-clause-tag : goal.returns-clause-tag
returns-clause-tag c = change_tag_old
