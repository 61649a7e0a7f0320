use Rattle.botjournal.proofs.PassingLaws.{passes_some}
use Rattle.botjournal.proofs.layouts.pass_so_many_records.Goals as goal

pub returns-in-Second : goal.returns-in-Second
returns-in-Second c = rw c.in-Second.is (passes_some c.pass_records.result _ _ c.pass_records.ensures.value)

pub returns-in-Third : goal.returns-in-Third
returns-in-Third c = rw c.in-Third.is (passes_some c.pass_records-in-Third.result _ _ c.pass_records-in-Third.ensures.value)

pub returns-in-Fourth : goal.returns-in-Fourth
returns-in-Fourth c = rw c.in-Fourth.is (passes_some c.pass_records-in-Fourth.result _ _ c.pass_records-in-Fourth.ensures.value)
