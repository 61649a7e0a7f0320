use Rattle.sealing.proofs.OnceLaws.{counted, tagged_apart}
use Rattle.sealing.proofs.laws.each_count_is_used_once.Goals as goal

pub returns-clause-counted : goal.returns-clause-counted
returns-clause-counted c = counted

pub returns-clause-apart : goal.returns-clause-apart
returns-clause-apart c = tagged_apart
