use Rattle.bytejournal.proofs.Recovering.{lives_kept, opened_is_found, restarted_is_found}
use Rattle.bytejournal.proofs.recovery.laws_of_journals.Goals as goal

pub returns : goal.returns
returns g c =
    let state = g.D.Disk.state in
    record { kept = lives_kept state; opened = opened_is_found state; restarted = restarted_is_found state }
