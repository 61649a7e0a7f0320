use Rattle.serverlink.proofs.TagLemmas.{stage_after-append, untagged-append, untagged_line, without_tags_plain}
use Rattle.serverlink.proofs.laws.laws_of_tags.Goals as goal

pub returns-clause-pieces : goal.returns-clause-pieces
returns-clause-pieces c = untagged-append

pub returns-clause-stages : goal.returns-clause-stages
returns-clause-stages c = stage_after-append

pub returns-clause-lines : goal.returns-clause-lines
returns-clause-lines c = untagged_line

pub returns-clause-plain : goal.returns-clause-plain
returns-clause-plain c = without_tags_plain
