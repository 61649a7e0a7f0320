use Rattle.userfile.proofs.TextLemmas.{no_fault}
use Rattle.userfile.proofs.user_edits.hostmask_of.Goals as goal

pub returns-in-Err-Refused-clause-err : goal.returns-in-Err-Refused-clause-err
returns-in-Err-Refused-clause-err c =
    let made = rw (c.in-Err-Refused.field-0-is, c.as_bytes.ensures) at c.in-Err-Refused.ensures in
    absurd (no_fault _ _ c.requires made)
