use Rattle.administrators.proofs.told_changes.change_line.Goals as goal

pub returns : goal.returns
returns c = record { person = c.as_slice.result.now; words = c.as_slice-2.result.now; is = c.in_ok-line.ensures }
