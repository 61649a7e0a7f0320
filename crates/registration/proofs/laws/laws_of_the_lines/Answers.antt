use Rattle.registration.proofs.LineLaws.{end_line_after, end_line_once}
use Rattle.registration.proofs.laws.laws_of_the_lines.Goals as goal

pub returns-clause-once : goal.returns-clause-once
returns-clause-once c = end_line_once

pub returns-clause-after_login : goal.returns-clause-after_login
returns-clause-after_login c = end_line_after
