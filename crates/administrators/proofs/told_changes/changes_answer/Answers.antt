use Rattle.administrators.proofs.told_changes.changes_answer.Goals as goal

pub returns : goal.returns
returns c = rw (c.told_from-told.ensures, c.first_told-first.ensures.value, c.floor_of-floor.ensures) at c.answer_of.ensures
