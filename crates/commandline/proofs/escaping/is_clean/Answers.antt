use Rattle.std.proofs.Common.{refl}
use Rattle.std.proofs.lemmas.Str.{is_utf8-from_IsUtf8}
use Rattle.commandline.proofs.EscapeLemmas.{not_utf8}
use Rattle.commandline.proofs.escaping.is_clean.Goals as goal

pub returns-in-Ok : goal.returns-in-Ok
returns-in-Ok c = rw (is_utf8-from_IsUtf8 _ c.in-Ok.ensures.cases.1, c.has_control.ensures) refl

pub returns-in-Err : goal.returns-in-Err
returns-in-Err c = rw (not_utf8 _ c.in-Err.ensures.cases.0) refl
