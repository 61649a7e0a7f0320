use Rattle.std.proofs.Common.{inl, inr, refl}
use Rattle.bytejournal.proofs.Moments.{still_has, loosened}
use Rattle.bytejournal.proofs.gate.close_if.Goals as goal

pub returns-clause-any_moment : goal.returns-clause-any_moment
returns-clause-any_moment g c = still_has _ _ c.requires.settled (inl refl)

pub returns-then-closes-clause-any_moment : goal.returns-then-closes-clause-any_moment
returns-then-closes-clause-any_moment g c =
    loosened _ _ _ _ c.close_first_gate.ensures.any_moment (λ image is. inr (is.0, c.if-closes.true, is.1))
