use Rattle.jsonlaws.proofs.StringLemmas.{characters-spelled, lex-quoted}
use Rattle.jsonlaws.proofs.strings.laws_of_strings.Goals as goal

pub returns-clause-characters : goal.returns-clause-characters
returns-clause-characters c = characters-spelled

pub returns-clause-ends : goal.returns-clause-ends
returns-clause-ends c = lex-quoted
