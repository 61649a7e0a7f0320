use Rattle.std.proofs.Common.{inl, refl}
use Rattle.bytejournal.proofs.Moments.{still_has}
use Rattle.bytejournal.proofs.gate.write_and_close.Goals as goal

pub returns-in_err-close_if-clause-any_moment : goal.returns-in_err-close_if-clause-any_moment
returns-in_err-close_if-clause-any_moment g c = still_has _ _ c.requires.settled (inl refl)
